-- What a search among ascending cycles finds.
use Rattle.std.proofs.Common.{◌≡◌, ℕ, List, get_or, Result, Ok, Err, inl, inr, sym, ◌∙◌, arith}
use Rattle.std.specs.Prelude.{is_ok, ◌==◌}
use Rattle.std.specs.List.Sorted.{IsNonDecreasing, IsBinarySearchResult, IsPermutation}
use Rattle.std.specs.Ordering.{nat_cmp}
use Rattle.std.proofs.lemmas.Bool.{cases_lt, eq-eqb, ne_eqb}
use Rattle.std.proofs.lemmas.List.{get_or_default}
use Rattle.std.proofs.lemmas.List.Folds.{list_any_at, list_any_none}
use Rattle.std.proofs.lemmas.List.Sorted.{searched, list_any-IsPermutation}
use Rattle.cm_document.specs.Cycles.{is_listed, ListsSame}

-- a cycle is found exactly where it is listed
pub found_where_listed : (xs : List ℕ) (x : ℕ) (r : Result ℕ ℕ) → IsNonDecreasing xs
    → IsBinarySearchResult (λ y. nat_cmp y x) xs r → is_ok r ≡ is_listed xs x
found_where_listed xs x (Ok i) up found =
    let s = searched xs x (Ok i) found (λ i j most below. up i j 0 most below) in
    sym (list_any_at (λ m. m == x) xs i 0 s.0 (eq-eqb (get_or xs i 0) x s.1))
found_where_listed xs x (Err i) up found =
    let s = searched xs x (Err i) found (λ i j most below. up i j 0 most below) in
    sym (list_any_none (λ m. m == x) xs (λ k d below. ne_eqb (get_or xs k d) x (λ same.
    let here : get_or xs k 0 ≡ x = get_or_default xs k 0 d below ∙ same in
    elim (cases_lt k i) [
      | inl before ↦ omega (arith, s.1 k before, here)
      | inr behind ↦ omega (arith, s.2 k behind below, here)
    ])))

-- cycles in another order are the same
pub same_in_order : (xs ys : List ℕ) → IsPermutation xs ys → ListsSame ys xs
same_in_order xs ys moved = record { at = λ n. sym (list_any-IsPermutation (λ m. m == n) xs ys moved) }
