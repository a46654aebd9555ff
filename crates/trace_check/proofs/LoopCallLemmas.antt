-- Which call stands at which place of a whole run's loop.
use Rattle.std.proofs.Common.{◌≡◌, ℕ, zero, suc, ◌+◌, ◌<◌, List, [], ◌∷◌, ◌++◌, length, Some}
use Rattle.std.proofs.Common.{None, refl, ap, ◌∙◌, inl, inr, ◌⊎◌, arith, length-append}
use Rattle.std.specs.Prelude.{slice_get}
use Rattle.cm_document.specs.declared.call.Call.{Call}
use Rattle.cm_document.specs.declared.call.Call.TheVariants.{Begin, End, Close}
use Rattle.cm_model.specs.Sessions.{cycle_calls, loop_calls}

-- what stands in the first of two lists, and behind it
in_first : (xs ys : List Call) (i : ℕ) → i < length xs → slice_get (xs ++ ys) i ≡ slice_get xs i
in_first [] ys i less = absurd (omega (arith, less))
in_first (x ∷ xs) ys zero less = refl
in_first (x ∷ xs) ys (suc i) less = in_first xs ys i (omega (arith, less))

behind_first : (xs ys : List Call) (j : ℕ) → slice_get (xs ++ ys) (length xs + j) ≡ slice_get ys j
behind_first [] ys j = let none : 0 + j ≡ j = omega arith in ap (slice_get ys) none
behind_first (x ∷ xs) ys j =
    let one : suc (length xs) + j ≡ suc (length xs + j) = omega arith in
    ap (slice_get (x ∷ (xs ++ ys))) one ∙ behind_first xs ys j

cycles_long : (n : ℕ) → length (cycle_calls n) ≡ n + n
cycles_long zero = refl
cycles_long (suc n) =
    let before = cycles_long n in
    let more : length (cycle_calls n ++ (Begin n ∷ End n ∷ [])) ≡ length (cycle_calls n) + 2 =
    length-append (cycle_calls n) (Begin n ∷ End n ∷ []) in
    omega (arith, before, more)

-- a number below the next one is below this one, or this one
last_or_before : (n k : ℕ) → k < suc n → (k < n) ⊎ (n ≡ k)
last_or_before zero zero less = inr refl
last_or_before zero (suc k) less = absurd (omega (arith, less))
last_or_before (suc n) zero less = inl (omega arith)
last_or_before (suc n) (suc k) less = elim (last_or_before n k (omega (arith, less))) [
  | inl before ↦ inl (omega (arith, before))
  | inr same ↦ inr (ap suc same)
]

-- the begin and the end of a cycle of the first n
begin_in : (n k : ℕ) → k < n → slice_get (cycle_calls n) (k + k) ≡ Some (Begin k)
begin_in zero k less = absurd (omega (arith, less))
begin_in (suc n) k less = either (λ before. begin_in n k before) (last_or_before n k less)
  where
    either : (k < n → slice_get (cycle_calls n) (k + k) ≡ Some (Begin k)) → ((k < n) ⊎ (n ≡ k))
        → slice_get (cycle_calls (suc n)) (k + k) ≡ Some (Begin k)
    either rest (inl before) =
        let long = cycles_long n in
        in_first (cycle_calls n) (Begin n ∷ End n ∷ []) (k + k) (omega (arith, before, long)) ∙ rest before
    either rest (inr same) =
        let long = cycles_long n in
        let place : k + k ≡ length (cycle_calls n) + 0 = omega (arith, same, long) in
        ap (slice_get (cycle_calls (suc n))) place ∙ behind_first (cycle_calls n) (Begin n ∷ End n ∷ []) 0
        ∙ ap (λ m. Some (Begin m)) same

end_in : (n k : ℕ) → k < n → slice_get (cycle_calls n) ((k + k) + 1) ≡ Some (End k)
end_in zero k less = absurd (omega (arith, less))
end_in (suc n) k less = either (λ before. end_in n k before) (last_or_before n k less)
  where
    either : (k < n → slice_get (cycle_calls n) ((k + k) + 1) ≡ Some (End k)) → ((k < n) ⊎ (n ≡ k))
        → slice_get (cycle_calls (suc n)) ((k + k) + 1) ≡ Some (End k)
    either rest (inl before) =
        let long = cycles_long n in
        in_first (cycle_calls n) (Begin n ∷ End n ∷ []) ((k + k) + 1) (omega (arith, before, long)) ∙ rest before
    either rest (inr same) =
        let long = cycles_long n in
        let place : (k + k) + 1 ≡ length (cycle_calls n) + 1 = omega (arith, same, long) in
        ap (slice_get (cycle_calls (suc n))) place ∙ behind_first (cycle_calls n) (Begin n ∷ End n ∷ []) 1
        ∙ ap (λ m. Some (End m)) same

-- ---- In a whole run

pub begin_at : (n k : ℕ) → k < n → slice_get (loop_calls n) (k + k) ≡ Some (Begin k)
begin_at n k less =
    let long = cycles_long n in
    in_first (cycle_calls n) (Close ∷ []) (k + k) (omega (arith, less, long)) ∙ begin_in n k less

pub end_at : (n k : ℕ) → k < n → slice_get (loop_calls n) ((k + k) + 1) ≡ Some (End k)
end_at n k less =
    let long = cycles_long n in
    in_first (cycle_calls n) (Close ∷ []) ((k + k) + 1) (omega (arith, less, long)) ∙ end_in n k less

pub close_at : (n : ℕ) → slice_get (loop_calls n) (n + n) ≡ Some Close
close_at n =
    let long = cycles_long n in
    let place : n + n ≡ length (cycle_calls n) + 0 = omega (arith, long) in
    ap (slice_get (loop_calls n)) place ∙ behind_first (cycle_calls n) (Close ∷ []) 0

pub none_behind : (n : ℕ) → slice_get (loop_calls n) ((n + n) + 1) ≡ None
none_behind n =
    let long = cycles_long n in
    let place : (n + n) + 1 ≡ length (cycle_calls n) + 1 = omega (arith, long) in
    ap (slice_get (loop_calls n)) place ∙ behind_first (cycle_calls n) (Close ∷ []) 1
