-- Lemmas about the ranges of the items of a list.
use Rattle.std.proofs.Common.{◌≡◌, ◌⊎◌, ℕ, ◌<◌, List, length, get_or, drop, Result, Ok, Err, inl, inr, sym}
use Rattle.std.proofs.lemmas.List.{drop_more}
use Rattle.cm_document.specs.Forms.{item_path, inside}
use Rattle.cm_document.specs.Reading.{◌>>=◌}
use Rattle.cm_document.specs.Valid.{each_ranged}
use Rattle.cm_document.specs.declared.faults.CheckFault.{CheckFault}
use Rattle.cm_document.specs.declared.faults.CheckFault.TheVariants.{Memory}

-- the fault of an item, or want of memory, is that of all, from this item on
pub fault_of_item : {A : Type 0} (rule : List ℕ → A → Result (Unit {0}) CheckFault) (key : List ℕ) (k : ℕ) (xs : List A)
    (x : A) (prefix : List ℕ)
    (e : CheckFault) (all : Result (Unit {0}) CheckFault) → k < length xs → x ≡ get_or xs k x
    → prefix ≡ inside (item_path key k)
    → each_ranged rule key k (drop k xs) ≡ all → (e ≡ Memory) ⊎ (rule prefix x ≡ Err e) → (e ≡ Memory) ⊎ (all ≡ Err e)
fault_of_item rule key k xs x prefix e all within at place so_far (inl memory) = inl memory
fault_of_item rule key k xs x prefix e all within at place so_far (inr fault) =
    inr (sym (rw (drop_more xs k x within, ← at, ← place, fault) at so_far))
