-- The lines of a cycle in which nothing happens.
use Rattle.std.specs.Prelude.{◌≡◌, ℕ, ◌+◌, ◌/◌, ◌%◌, ◌<◌, ◌≤◌, List, ◌∷◌, ◌++◌, codes}
use Rattle.cm_document.specs.CallText.{call_text}
use Rattle.cm_storage.specs.Kept.{call_of}
use Rattle.cm_storage.specs.declared.kept_call.CycleCall.{CycleCall}

-- what stands behind the number
abbrev pub quiet_end : List ℕ
quiet_end = codes ": none\n"

-- the line of a begin or an end of which there is nothing to tell, as `loop begin 7: none`
abbrev pub quiet_text : CycleCall → List ℕ
quiet_text call = codes "loop " ++ call_text (call_of call) ++ quiet_end

-- two lines with this end are the same but for the two digits before it, and in the second these are the pair
pub record DifferAtPair (tail before now : List ℕ) (pair : ℕ) : Type 0 where
  pub front : List ℕ
  pub tens : ℕ
  pub ones : ℕ
  pub was : before ≡ front ++ (tens ∷ ones ∷ tail)
  pub is : now ≡ front ++ ((48 + pair / 10) ∷ (48 + pair % 10) ∷ tail)

-- a number is the one after another of two digits or more, and only its last two digits differ: this pair
pub record IsNextWith (last number pair : ℕ) : Type 0 where
  pub next : number ≡ last + 1
  pub many : 10 ≤ last
  pub within : 0 < pair
  pub is : pair ≡ number % 100
