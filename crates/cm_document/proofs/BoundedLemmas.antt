-- Numbers that have a least: the first that is below it, and what is told of it.
use Rattle.std.proofs.Common.{◌≡◌, ℕ, ℤ, Bool, true, false, List, [], ◌∷◌, ◌++◌, map}
use Rattle.std.proofs.Common.{Option, Some, None, Result, Ok, Err, refl, inl, inr}
use Rattle.std.specs.Prelude.{not, find, int_le, option_map}
use Rattle.std.specs.Option.{option_map_or}
use Rattle.std.proofs.lemmas.Bool.{cases_Bool}
use Rattle.cm_document.specs.Params.{Bounded, at_least}
use Rattle.cm_document.specs.Valid.{is_bounded, all_bounded, first_below}
use Rattle.cm_document.specs.declared.faults.CheckFault.{CheckFault}
use Rattle.cm_document.specs.declared.faults.CheckFault.TheVariants.{BadRange}

-- the first row that is below its least has the key that is told
pub found_below : {R : Type 0} (key : R → List ℕ) (least number : R → ℤ) (rows : List R)
    → option_map key (find (λ row. not (int_le (least row) (number row))) rows)
    ≡ first_below (map (λ row. at_least (key row) (least row) (number row)) rows)
found_below key least number [] = refl
found_below key least number (row ∷ rows) = elim (cases_Bool (int_le (least row) (number row))) [
  | inl within ↦ rw within (found_below key least number rows)
  | inr below ↦ rw below refl
]

-- what is told of limits is told of the first that is below its least
pub bounded_by_first : (prefix : List ℕ) (limits : List Bounded) (first : Option (List ℕ)) → first ≡ first_below limits
    → all_bounded prefix limits ≡ option_map_or (λ key. Err (BadRange (prefix ++ key))) first (Ok tt)
bounded_by_first prefix [] first is = rw is refl
bounded_by_first prefix (each ∷ others) first is = elim (cases_Bool (is_bounded each)) [
  | inl within ↦ (let further : first ≡ first_below others = rw within at is in
      rw within (bounded_by_first prefix others first further))
  | inr below ↦ (let here : first ≡ Some each.key = rw below at is in rw (below, here) refl)
]
