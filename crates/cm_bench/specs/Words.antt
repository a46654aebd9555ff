-- Which words are a plan.
use Rattle.std.specs.Prelude.{◌≡◌, ℕ, ◌<◌, ◌^◌, List, [], ◌∷◌}
use Rattle.std.specs.Str.Parse.{IsNumeral, digits_value, without_leading_plus}
use Rattle.cm_bench.specs.declared.plan.TurnsAsked.{TurnsAsked}

-- a word of decimal digits, with a plus before them or none, stands for this number of 64 bits
abbrev pub StandsFor : List ℕ → ℕ → Type 0
StandsFor word n =
    IsNumeral 10 (without_leading_plus word) × (n < 2 ^ 64) × (digits_value 10 (without_leading_plus word) ≡ n)

-- and for no number at all
abbrev pub StandsForNone : List ℕ → Type 0
StandsForNone word = (n : ℕ) → ¬ StandsFor word n

-- these two words stand for the turns, which are not 0, and for the seed
abbrev pub AreOf : List ℕ → List ℕ → TurnsAsked → Type 0
AreOf turns seed plan = (0 < plan.turns) × StandsFor turns plan.turns × StandsFor seed plan.seed

-- or for no plan at all
abbrev pub AreOfNone : List ℕ → List ℕ → Type 0
AreOfNone turns seed = (plan : TurnsAsked) → ¬ AreOf turns seed plan

-- two words that are a plan
abbrev pub IsPlan : List (List ℕ) → TurnsAsked → Type 0
IsPlan words plan = (turns : List ℕ) × (seed : List ℕ) × (words ≡ turns ∷ seed ∷ []) × AreOf turns seed plan

-- words that are none
abbrev pub IsNoPlan : List (List ℕ) → Type 0
IsNoPlan words = (plan : TurnsAsked) → ¬ IsPlan words plan

-- this word, and one that stands for so many runs, which are some
abbrev pub AreRuns : List ℕ → List ℕ → List ℕ → ℕ → Type 0
AreRuns asked word runs n = (word ≡ asked) × (0 < n) × StandsFor runs n

-- or for none at all
abbrev pub AreNoRuns : List ℕ → List ℕ → List ℕ → Type 0
AreNoRuns asked word runs = (n : ℕ) → ¬ AreRuns asked word runs n

-- two words, of which this is the first, that ask for so many runs
abbrev pub AskForRuns : List ℕ → List (List ℕ) → ℕ → Type 0
AskForRuns asked words n = (word : List ℕ) × (runs : List ℕ) × (words ≡ word ∷ runs ∷ []) × AreRuns asked word runs n

-- words that ask for none
abbrev pub AskForNoRuns : List ℕ → List (List ℕ) → Type 0
AskForNoRuns asked words = (n : ℕ) → ¬ AskForRuns asked words n
