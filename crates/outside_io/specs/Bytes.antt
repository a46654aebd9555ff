-- What whole reads, whole writes and flushes do to bytes that are known. Of unknown ones they say nothing.
use Rattle.std.specs.Prelude.{◌≡◌, ℕ, ◌<◌, ◌≤◌, List, [], length, take, Option, None, Some}
use Rattle.std.specs.Io.KnownBytes.{Appends, Consumes}

-- All bytes that were taken have been flushed.
abbrev pub AllFlushed : Option (List ℕ) → Option ℕ → Type 0
AllFlushed None flushed = Unit {0}
AllFlushed (Some taken) None = Unit {0}
AllFlushed (Some taken) (Some flushed) = flushed ≡ length taken

-- So many of these bytes: none only where there are none.
abbrev pub IsSomeOf : List ℕ → ℕ → Type 0
IsSomeOf bytes n = (n ≤ length bytes) × (0 < length bytes → 0 < n)

-- The sink took some front of these bytes: none of them, all, or anything between.
abbrev pub AppendsPrefix : Option (List ℕ) → Option (List ℕ) → List ℕ → Type 0
AppendsPrefix old new bytes = (k : ℕ) × (k ≤ length bytes) × Appends old new (take k bytes)

-- The source gave a front of at most n bytes, and still has the rest.
abbrev pub TakesAtMost : Option (List ℕ) → Option (List ℕ) → ℕ → Type 0
TakesAtMost old new n = (front : List ℕ) × (length front ≤ n) × Consumes old new front

-- These bytes are all that was left, and nothing is left.
abbrev pub GivesAll : Option (List ℕ) → Option (List ℕ) → List ℕ → Type 0
GivesAll None new bytes = Unit {0}
GivesAll (Some left) new bytes = (left ≡ bytes) × (new ≡ Some [])

-- More than n bytes are left.
abbrev pub IsLonger : Option (List ℕ) → ℕ → Type 0
IsLonger None n = Unit {0}
IsLonger (Some left) n = n < length left
