-- Bytes that wait behind those that are written.
use Rattle.std.proofs.Common.{◌≡◌, ℕ, List, [], Result, Ok, Err, OnOk, length}
use Rattle.std.proofs.Common.{drop, sym, ap, ◌∙◌, le_of_eq, drop_of_length-le}

-- where all was written nothing waits
pub none-waits : {X E : Type 0} (r : Result X E) (xs left : List ℕ) (n : ℕ) → left ≡ drop n xs → OnOk r (n ≡ length xs)
    → OnOk r (left ≡ [])
none-waits (Ok x) xs left n e all = e ∙ ap (λ k. drop k xs) all ∙ drop_of_length-le xs (le_of_eq (sym all ∙ all))
none-waits (Err y) xs left n e all = tt
