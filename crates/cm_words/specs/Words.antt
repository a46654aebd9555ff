-- The words after the program's name: which are accepted, and the job that they ask for.
use Rattle.std.specs.Prelude.{◌≡◌, ℕ, ◌≤◌, ◌==◌, ◌&&◌, nat_le, Bool, true, false, if◌then◌else◌, List, [], ◌∷◌}
use Rattle.std.specs.Prelude.{codes, length, Option, IfSome}
use Rattle.std.specs.Prelude.{Some, None, option_and_then, Result, Ok, Err}
use Rattle.std.specs.List.{list_all}
use Rattle.std.specs.Char.{is_ascii_digit}
use Rattle.std.specs.Str.{bytes_eq}
use Rattle.std.specs.Str.Parse.{digits_value}
use Rattle.clap.specs.Words.{App, Kinds, Rule, Text, fault_of, first_of, matches_of, new_app, new_rule, with_rule}
use Rattle.cm_words.specs.declared.job.TheConstants.{MOST_DIGITS_OF_ROUNDS, MOST_ROUNDS, MOST_WORKERS}
use Rattle.cm_words.specs.declared.job.Job.{Job}
use Rattle.cm_words.specs.declared.job.JobKind.{JobKind}
use Rattle.cm_words.specs.declared.job.JobKind.TheVariants.{Run, Steps, Live, Upgrade, Check, Plan}
use Rattle.cm_words.specs.declared.job.WordsFault.{WordsFault}
use Rattle.cm_words.specs.declared.job.WordsFault.TheVariants.{Usage}

-- ---- The command

-- the job: a positional text, which has to be there
abbrev pub job_rule : Rule
job_rule = record (new_rule (codes "job")) { required = true }

-- the option `--make`, with one text
abbrev pub make_rule : Rule
make_rule = record (new_rule (codes "make")) { long = Some (codes "make") }

-- the option `--workers`, with one text
abbrev pub workers_rule : Rule
workers_rule = record (new_rule (codes "workers")) { long = Some (codes "workers") }

-- a command without the flags for help and version
abbrev pub flagless : App → App
flagless a = record a { top = record a.top { disable_help_flag = true; disable_version_flag = true } }

-- The command `cm` has a job and two options, and nothing else.
abbrev pub command : App
command = with_rule (with_rule (with_rule (flagless (new_app (codes "cm"))) job_rule) make_rule) workers_rule

-- ---- What the command reads

-- what was read, where nothing is at fault
abbrev pub unless_at_fault : Kinds → Option Text → Option Text
unless_at_fault [] word = word
unless_at_fault _ word = None

-- The text that was given for this argument, where the command takes the line: the program's name, and the words.
unfoldable pub given : Text → List Text → Option Text
given id line = unless_at_fault (fault_of command line) (first_of id (matches_of command line))

-- the word for the job, and the texts of `--make` and `--workers`
abbrev pub job_word : List Text → Option Text
job_word line = given (codes "job") line

abbrev pub make_text : List Text → Option Text
make_text line = given (codes "make") line

abbrev pub workers_text : List Text → Option Text
workers_text line = given (codes "workers") line

-- ---- Words

-- the job that a word names
abbrev pub kind_named : Text → Option JobKind
kind_named word =
    if bytes_eq word (codes "run")
    then Some Run
    else if bytes_eq word (codes "steps") then Some Steps else if bytes_eq word (codes "live") then Some Live
    else if bytes_eq word (codes "upgrade") then Some Upgrade
    else if bytes_eq word (codes "check") then Some Check
    else if bytes_eq word (codes "plan") then Some Plan else None

-- a number of rounds that can be asked for
abbrev pub rounds_within : ℕ → Option ℕ
rounds_within n = if nat_le 1 n && nat_le n MOST_ROUNDS then Some n else None

-- how many rounds a text asks for, in one to four digits
abbrev pub rounds_in : Text → Option ℕ
rounds_in text =
    if (nat_le 1 (length text) && nat_le (length text) MOST_DIGITS_OF_ROUNDS) && list_all is_ascii_digit text
    then rounds_within (digits_value 10 text)
    else None

-- a number of workers that can be asked for
abbrev pub workers_within : ℕ → Option ℕ
workers_within n = if nat_le 1 n && nat_le n MOST_WORKERS then Some n else None

-- how many workers a text asks for, in one digit
abbrev pub workers_in : Text → Option ℕ
workers_in text =
    if length text == 1 && list_all is_ascii_digit text then workers_within (digits_value 10 text) else None

-- a job of this kind can make its document: it runs it
abbrev pub can_make : JobKind → Bool
can_make Upgrade = false
can_make Check = false
can_make Plan = false
can_make _ = true

-- a document is made if the text says of how many rounds
abbrev pub making : Option ℕ → Result (Option ℕ) WordsFault
making None = Err Usage
making (Some rounds) = Ok (Some rounds)

-- of how many rounds a job of this kind makes its document; without `--make` it reads it
abbrev pub rounds_asked : JobKind → Option Text → Result (Option ℕ) WordsFault
rounds_asked kind None = Ok None
rounds_asked kind (Some text) = if can_make kind then making (rounds_in text) else Err Usage

-- cycles are shared if the text says among how many workers
abbrev pub sharing : Option ℕ → Result ℕ WordsFault
sharing None = Err Usage
sharing (Some count) = Ok count

-- how many workers a job of this kind has: one that runs its document can have several, and without `--workers` it has
-- one
abbrev pub workers_asked : JobKind → Option Text → Result ℕ WordsFault
workers_asked kind None = Ok 1
workers_asked kind (Some text) = if can_make kind then sharing (workers_in text) else Err Usage

-- a job of this kind, unless one of its options is refused
abbrev pub job_with : JobKind → Result (Option ℕ) WordsFault → Result ℕ WordsFault → Result Job WordsFault
job_with kind (Ok make) (Ok workers) = Ok (record { kind = kind; make = make; workers = workers })
job_with kind (Ok make) (Err fault) = Err fault
job_with kind (Err fault) workers = Err fault

-- the job that these words ask for: the word of a kind, and what its options say
abbrev pub job_of : Option JobKind → Option Text → Option Text → Result Job WordsFault
job_of None make workers = Err Usage
job_of (Some kind) make workers = job_with kind (rounds_asked kind make) (workers_asked kind workers)

-- A job that can be asked for: its numbers are within their limits, and if it runs no document it reads one, by one
-- worker.
pub record CanBeAsked (job : Job) : Type 0 where
  pub rounds : IfSome job.make (λ rounds. (1 ≤ rounds) × (rounds ≤ MOST_ROUNDS))
  pub workers : (1 ≤ job.workers) × (job.workers ≤ MOST_WORKERS)
  pub unmade : can_make job.kind ≡ false → job.make ≡ None
  pub alone : can_make job.kind ≡ false → job.workers ≡ 1

-- The job that the words ask for. Words are refused that the command does not take, and those whose job is none of
-- these or whose numbers of rounds and workers are none.
abbrev pub asked : List Text → Result Job WordsFault
asked words =
    let line = codes "cm" ∷ words in
    job_of (option_and_then kind_named (job_word line)) (make_text line) (workers_text line)
