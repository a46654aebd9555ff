-- The lists of words that ask for a job, told one by one.
use Rattle.std.specs.Prelude.{◌≡◌, ◌⊎◌, ◌||◌, Bool, false, List, [], ◌∷◌, None, codes}
use Rattle.std.specs.List.{AllByRecursion}
use Rattle.std.specs.Option.{option_map_or}
use Rattle.std.specs.Str.{bytes_eq}
use Rattle.clap.specs.Lexer.{long_of}
use Rattle.clap.specs.Words.{Text}
use Rattle.cm_words.specs.declared.job.Job.{Job}
use Rattle.cm_words.specs.declared.job.JobKind.{JobKind}
use Rattle.cm_words.specs.declared.job.JobKind.TheVariants.{Run, Steps, Live, Upgrade, Check, Plan}

-- the word of a job
abbrev pub word_for : JobKind → Text
word_for Run = codes "run"
word_for Steps = codes "steps"
word_for Live = codes "live"
word_for Upgrade = codes "upgrade"
word_for Check = codes "check"
word_for Plan = codes "plan"

-- this word alone, or with two hyphens before it or behind it
abbrev pub IsAround : Text → List Text → Type 0
IsAround word words = (words ≡ word ∷ []) ⊎ ((words ≡ codes "--" ∷ word ∷ []) ⊎ (words ≡ word ∷ codes "--" ∷ []))

-- The words of a job that reads its document and has one worker: its word, with or without the two hyphens that end the
-- options.
pub record IsListed (words : List Text) (job : Job) : Type 0 where
  pub around : IsAround (word_for job.kind) words
  pub reads : job.make ≡ None
  pub alone : job.workers ≡ 1

-- a name is that of an option
abbrev pub is_option : Text → Bool
is_option name = bytes_eq (codes "make") name || bytes_eq (codes "workers") name

-- a word is an option, alone or with a text behind `=`
abbrev pub gives_option : Text → Bool
gives_option word = option_map_or (λ named. is_option named.0) (long_of word) false

-- no word is an option
abbrev pub HasNoOption : List Text → Type 0
HasNoOption words = AllByRecursion (λ word. gives_option word ≡ false) words
