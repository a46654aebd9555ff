-- A loop over controllers by index that changes each in its turn.
use Rattle.std.proofs.Common.{◌≡◌, ℕ, zero, suc, ◌+◌, List, [], ◌∷◌, ◌++◌, map, take}
use Rattle.std.proofs.Common.{drop, slice_set, Some, sym, subst, ap, ◌∙◌, arith}
use Rattle.std.specs.Prelude.{slice_get}
use Rattle.std.specs.List.{AllByRecursion}
use Rattle.std.proofs.lemmas.Option.{none-some, same_Some}

next_index : (i : ℕ) → suc i ≡ i + 1
next_index i = omega arith

changed_next : {A : Type 0} (f : A → A) (xs : List A) (i : ℕ) (x y : A) → slice_get xs i ≡ Some x → y ≡ f x
    → take (suc i) (slice_set xs i y) ++ map f (drop (suc i) (slice_set xs i y)) ≡ take i xs ++ map f (drop i xs)
changed_next f [] i x y at is = absurd (none-some x at)
changed_next {A = A} f (z ∷ zs) zero x y at is = ap (λ (w : A). w ∷ map f zs) (is ∙ ap f (sym (same_Some z x at)))
changed_next {A = A} f (z ∷ zs) (suc i) x y at is = ap (λ (ws : List A). z ∷ ws) (changed_next f zs i x y at is)

-- one more is changed
pub changed_more : {A : Type 0} (f : A → A) (xs : List A) (i : ℕ) (x y : A) → slice_get xs i ≡ Some x → y ≡ f x
    → take (i + 1) (slice_set xs i y) ++ map f (drop (i + 1) (slice_set xs i y)) ≡ take i xs ++ map f (drop i xs)
changed_more f xs i x y at is =
    subst (λ (n : ℕ). take n (slice_set xs i y) ++ map f (drop n (slice_set xs i y)) ≡ take i xs ++ map f (drop i xs))
    (next_index i) (changed_next f xs i x y at is)

-- what holds of all that are left holds of the next,
pub next_of : {A : Type 0} (P : A → Type 0) (xs : List A) (i : ℕ) (x : A) → slice_get xs i ≡ Some x
    → AllByRecursion P (drop i xs) → P x
next_of P [] i x at all = absurd (none-some x at)
next_of P (z ∷ zs) zero x at all = subst P (same_Some z x at) all.0
next_of P (z ∷ zs) (suc i) x at all = next_of P zs i x at all

left_next : {A : Type 0} (P : A → Type 0) (xs : List A) (i : ℕ) (y : A) → AllByRecursion P (drop i xs)
    → AllByRecursion P (drop (suc i) (slice_set xs i y))
left_next P [] i y all = tt
left_next P (z ∷ zs) zero y all = all.1
left_next P (z ∷ zs) (suc i) y all = left_next P zs i y all

-- and of those behind it, once it was changed
pub left_of : {A : Type 0} (P : A → Type 0) (xs : List A) (i : ℕ) (y : A) → AllByRecursion P (drop i xs)
    → AllByRecursion P (drop (i + 1) (slice_set xs i y))
left_of P xs i y all =
    subst (λ (n : ℕ). AllByRecursion P (drop n (slice_set xs i y))) (next_index i) (left_next P xs i y all)

-- what holds of all holds of the last, and of those before it
pub last_of : {A : Type 0} (P : A → Type 0) (xs : List A) (x : A) → AllByRecursion P (xs ++ x ∷ []) → P x
last_of P [] x all = all.0
last_of P (y ∷ ys) x all = last_of P ys x all.1

pub before_last : {A : Type 0} (P : A → Type 0) (xs : List A) (x : A) → AllByRecursion P (xs ++ x ∷ [])
    → AllByRecursion P xs
before_last P [] x all = tt
before_last P (y ∷ ys) x all = (all.0, before_last P ys x all.1)
