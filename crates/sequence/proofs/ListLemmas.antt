-- Lemmas on lists, for whoever reasons about them.
use Rattle.std.proofs.Common.{◌≡◌, ℕ, zero, suc, ◌+◌, ◌<◌, ◌≤◌, List, [], ◌∷◌, ◌++◌, map}
use Rattle.std.proofs.Common.{length, get_or, set, take, drop, Bool, true, false, cond, ◌||◌}
use Rattle.std.proofs.Common.{Some, refl, ap, subst, ◌∙◌, add-one, arith, length-append}
use Rattle.std.specs.Prelude.{◌==◌, flat_map, slice_get, slice_set}
use Rattle.std.specs.List.{list_any, filter, AllByRecursion}
use Rattle.std.proofs.lemmas.Bool.Decides.{nat_tests}
use Rattle.std.proofs.lemmas.List.{take_all, drop_all, append-nil}
use Rattle.std.proofs.lemmas.List.Folds.{list_any-append}
use Rattle.std.proofs.lemmas.Option.{same_Some}
use Rattle.sequence.specs.Last.{in_last}

-- ---- Whether some item passes a test

-- a test of what items are made into
pub any_map : {A B : Type 0} (test : B → Bool) (f : A → B) (xs : List A)
    → list_any test (map f xs) ≡ list_any (λ x. test (f x)) xs
any_map test f [] = refl
any_map test f (x ∷ xs) = ap (λ b. test (f x) || b) (any_map test f xs)

-- a test of lists that are joined: some item of one of them passes it
pub any_flat_map : {A B : Type 0} (test : B → Bool) (f : A → List B) (xs : List A)
    → list_any test (flat_map f xs) ≡ list_any (λ x. list_any test (f x)) xs
any_flat_map test f [] = refl
any_flat_map test f (x ∷ xs) =
    list_any-append test (f x) (flat_map f xs) ∙ ap (λ b. list_any test (f x) || b) (any_flat_map test f xs)

-- a test of two lists together
pub ruleset any_append = (list_any-append)

-- ---- What is read of each item

-- what is filtered is read as it is
pub filter_map_swapped : {A B : Type 0} (test : B → Bool) (f : A → B) (xs : List A)
    → filter test (map f xs) ≡ map f (filter (λ x. test (f x)) xs)
filter_map_swapped test f [] = refl
filter_map_swapped {A} {B} test f (x ∷ xs) = one (test (f x)) (filter_map_swapped test f xs)
  where
    one : (b : Bool) → filter test (map f xs) ≡ map f (filter (λ x. test (f x)) xs)
        → cond b (f x ∷ filter test (map f xs)) (filter test (map f xs))
        ≡ map f (cond b (x ∷ filter (λ x. test (f x)) xs) (filter (λ x. test (f x)) xs))
    one true rest = ap (λ ys. f x ∷ ys) rest
    one false rest = rest

-- what is read in two steps
pub map_twice : {A B C : Type 0} (f : A → B) (g : B → C) (xs : List A) → map g (map f xs) ≡ map (λ x. g (f x)) xs
map_twice f g [] = refl
map_twice f g (x ∷ xs) = ap (λ ys. g (f x) ∷ ys) (map_twice f g xs)

-- ---- What holds of each item

-- what holds of each item of two lists holds of each of both together
pub all_append : {A : Type 0} (P : A → Type 0) (xs ys : List A) → AllByRecursion P xs → AllByRecursion P ys
    → AllByRecursion P (xs ++ ys)
all_append P [] ys all others = others
all_append P (x ∷ xs) ys all others = (all.0, all_append P xs ys all.1 others)

-- and of one item more
pub all_push : {A : Type 0} (P : A → Type 0) (xs : List A) (x : A) → AllByRecursion P xs → P x
    → AllByRecursion P (xs ++ x ∷ [])
all_push P xs x all one = all_append P xs (x ∷ []) all (one, tt)

-- so of the one that stands somewhere
pub all_at : {A : Type 0} (P : A → Type 0) (xs : List A) (i : ℕ) (x : A) → AllByRecursion P xs → slice_get xs i ≡ Some x
    → P x
all_at P [] i x all there = cc
all_at P (y ∷ ys) zero x all there = subst P (same_Some y x there) all.0
all_at P (y ∷ ys) (suc i) x all there = all_at P ys i x all.1 there

-- and of each where another stands there, of which it holds too
pub all_set : {A : Type 0} (P : A → Type 0) (xs : List A) (i : ℕ) (y : A) → AllByRecursion P xs → P y
    → AllByRecursion P (slice_set xs i y)
all_set P [] i y all one = tt
all_set P (x ∷ xs) zero y all one = (one, all.1)
all_set P (x ∷ xs) (suc i) y all one = (all.0, all_set P xs i y all.1 one)

-- ---- The first item

-- lists that are the same have the same first item,
pub head_same : {A : Type 0} (d x y : A) (xs ys : List A) → x ∷ xs ≡ y ∷ ys → x ≡ y
head_same {A = A} d x y xs ys same = ap (λ (l : List A). get_or l 0 d) same

-- and the same after it
pub tail_same : {A : Type 0} (x y : A) (xs ys : List A) → x ∷ xs ≡ y ∷ ys → xs ≡ ys
tail_same {A = A} x y xs ys same = ap (λ (l : List A). drop 1 l) same

-- ---- The last item

-- a list with an item is not empty
pub not_empty : {A : Type 0} (xs : List A) → 0 < length xs → (length xs == 0) ≡ false
not_empty xs some = grind (arith, nat_tests)

-- such as one that ends
pub not_empty_push : {A : Type 0} (xs : List A) (x : A) → (length (xs ++ x ∷ []) == 0) ≡ false
not_empty_push xs x = let long = length-append xs (x ∷ []) in not_empty (xs ++ x ∷ []) (omega arith)

pub in_last_push : {A : Type 0} (f : A → A) (xs : List A) (x : A) → in_last f (xs ++ x ∷ []) ≡ xs ++ f x ∷ []
in_last_push f [] x = refl
in_last_push f (y ∷ []) x = refl
in_last_push f (y ∷ z ∷ xs) x = ap (λ ys. y ∷ ys) (in_last_push f (z ∷ xs) x)

pub length_in_last : {A : Type 0} (f : A → A) (xs : List A) → length (in_last f xs) ≡ length xs
length_in_last f [] = refl
length_in_last f (x ∷ []) = refl
length_in_last f (x ∷ y ∷ xs) = ap suc (length_in_last f (y ∷ xs))

-- what a change keeps of each item stays
pub all_in_last : {A : Type 0} (P : A → Type 0) (f : A → A) (xs : List A) → AllByRecursion P xs
    → ((x : A) → P x → P (f x)) → AllByRecursion P (in_last f xs)
all_in_last P f [] all kept = tt
all_in_last P f (x ∷ []) all kept = (kept x all.0, tt)
all_in_last P f (x ∷ y ∷ xs) all kept = (all.0, all_in_last P f (y ∷ xs) all.1 kept)

-- ---- Loops that write a place for each item

-- the places up to this one hold what is made of the items up to it, and the next place is written
written_next : {A B : Type 0} (f : A → B) (xs : List A) (ys zs : List B) (i : ℕ) (x : A) → i < length xs
    → length zs ≡ length xs
    → ys ≡ map f (take i xs) ++ drop i zs → x ≡ get_or xs i x
    → set ys i (f x) ≡ map f (take (suc i) xs) ++ drop (suc i) zs
written_next f [] ys zs i x within same so_far is = absurd (omega (arith, within))
written_next f (w ∷ ws) ys [] i x within same so_far is = absurd (omega (arith, same))
written_next f (w ∷ ws) ys (z ∷ zs) zero x within same so_far is = rw so_far (ap (λ v. f v ∷ zs) is)
written_next f (w ∷ ws) ys (z ∷ zs) (suc i) x within same so_far is =
    rw so_far (ap (λ l. f w ∷ l)
    (written_next f ws (map f (take i ws) ++ drop i zs) zs i x (omega (arith, within)) (omega (arith, same)) refl is))

pub written_more : {A B : Type 0} (f : A → B) (xs : List A) (ys zs : List B) (i : ℕ) (x : A) → i < length xs
    → length zs ≡ length xs
    → ys ≡ map f (take i xs) ++ drop i zs → x ≡ get_or xs i x
    → set ys i (f x) ≡ map f (take (i + 1) xs) ++ drop (i + 1) zs
written_more f xs ys zs i x within same so_far is = rw add-one (written_next f xs ys zs i x within same so_far is)

-- until then the next place holds what it held
pub not_yet_written : {A B : Type 0} (f : A → B) (xs : List A) (ys zs : List B) (i : ℕ) (d : B) → i < length xs
    → length zs ≡ length xs
    → ys ≡ map f (take i xs) ++ drop i zs → get_or ys i d ≡ get_or zs i d
not_yet_written f [] ys zs i d within same so_far = absurd (omega (arith, within))
not_yet_written f (w ∷ ws) ys [] i d within same so_far = absurd (omega (arith, same))
not_yet_written f (w ∷ ws) ys (z ∷ zs) zero d within same so_far = rw so_far refl
not_yet_written f (w ∷ ws) ys (z ∷ zs) (suc i) d within same so_far =
    rw so_far (not_yet_written f ws (map f (take i ws) ++ drop i zs) zs i d (omega (arith, within))
    (omega (arith, same)) refl)

-- when all places are written
pub written_all : {A B : Type 0} (f : A → B) (xs : List A) (ys zs : List B) (i : ℕ) → length xs ≤ i
    → length zs ≡ length xs
    → ys ≡ map f (take i xs) ++ drop i zs → ys ≡ map f xs
written_all f xs ys zs i past same so_far =
    so_far ∙ rw (take_all i xs past, drop_all i zs (omega (arith, same))) (append-nil (map f xs))
