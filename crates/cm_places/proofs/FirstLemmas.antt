-- Where the first of a list stands that passes a test, and what is found so of several names.
use Rattle.std.proofs.Common.{◌≡◌, ℕ, suc, ◌+◌, Bool, true, false, List, [], ◌∷◌, length}
use Rattle.std.proofs.Common.{map, Option, Some, None, inl, inr, refl, ap, ap₂, ◌∙◌, arith}
use Rattle.std.specs.Prelude.{if◌then◌else◌, nat_lt, slice_get, position, filter_map}
use Rattle.std.specs.List.{AllByRecursion, list_any, position_or_len, cons_option}
use Rattle.std.specs.Option.{option_map}
use Rattle.std.proofs.lemmas.Bool.{cases_Bool, lt-ltb}
use Rattle.std.proofs.lemmas.Bool.Decides.{nat_tests}
use Rattle.std.proofs.lemmas.List.{length-map}

-- ---- One

-- where it stands, by whether the first passes
pub position-cons : {A : Type 0} (test : A → Bool) (x : A) (xs : List A)
    → position test (x ∷ xs) ≡ (if test x then Some 0 else option_map suc (position test xs))
position-cons test x xs =
    elim (cases_Bool (test x)) [
      | inl passes ↦
          let first : nat_lt 0 (suc (length xs)) ≡ true = lt-ltb 0 (suc (length xs)) (omega arith) in
          rw (passes, first) refl
      | inr fails ↦ rw fails (behind (position_or_len test xs) (length xs))
    ]
  where
    behind : (k n : ℕ)
        → (if nat_lt (1 + k) (suc n) then Some (1 + k) else None) ≡ option_map suc (if nat_lt k n then Some k else None)
    behind k n =
        elim (cases_Bool (nat_lt k n)) [
          | inl less ↦
              let further : nat_lt (1 + k) (suc n) ≡ true = grind (arith, nat_tests) in
              let next : 1 + k ≡ suc k = omega arith in
              rw (less, further, next) refl
          | inr past ↦
              let further : nat_lt (1 + k) (suc n) ≡ false = grind (arith, nat_tests) in
              rw (past, further) refl
        ]

-- where it stands among what these are made into
pub position-map : {A B : Type 0} (test : B → Bool) (f : A → B) (xs : List A)
    → position test (map f xs) ≡ position (λ x. test (f x)) xs
position-map test f xs = ap₂ (λ k n. if nat_lt k n then Some k else None) (before xs) (length-map xs f)
  where
    before : (xs : List _) → position_or_len test (map f xs) ≡ position_or_len (λ x. test (f x)) xs
    before [] = refl
    before (x ∷ xs) = rw (before xs) refl

-- one of a place moved on by one
pub moved_on : (o : Option ℕ) (k : ℕ) → option_map suc o ≡ Some k → (j : ℕ) × (o ≡ Some j) × (k ≡ suc j)
moved_on None k e = cc
moved_on (Some j) k e = (j, refl, cc)

-- what is found stands there, and passes
pub found_at : {A : Type 0} (test : A → Bool) (xs : List A) (k : ℕ) → position test xs ≡ Some k
    → (x : A) × (slice_get xs k ≡ Some x) × (test x ≡ true)
found_at test [] k e = cc
found_at test (x ∷ xs) k e =
    elim (cases_Bool (test x)) [
      | inl passes ↦
          let first : k ≡ 0 = (let h = rw (position-cons test x xs, passes) at e in cc) in
          rw first (x, refl, passes)
      | inr fails ↦
          let j = moved_on (position test xs) k (rw (position-cons test x xs, fails) at e) in
          rw j.2 (found_at test xs j.0 j.1)
    ]

-- where one passes, the first of them has its place
pub place_of_any : {A : Type 0} (test : A → Bool) (xs : List A) → list_any test xs ≡ true
    → (k : ℕ) × (position test xs ≡ Some k)
place_of_any test [] some = cc
place_of_any test (x ∷ xs) some =
    elim (cases_Bool (test x)) [
      | inl passes ↦ (0, position-cons test x xs ∙ rw passes refl)
      | inr fails ↦
          let r = place_of_any test xs (rw fails at some) in
          (suc r.0, position-cons test x xs ∙ rw (fails, r.1) refl)
    ]

-- ---- Several

-- something is found for this one
abbrev pub IsFound : {A B : Type 0} → (A → Option B) → A → Type 0
IsFound {A} {B} h x = (y : B) × (h x ≡ Some y)

-- as many are found as are looked for
pub found_count : {A B : Type 0} (h : A → Option B) (xs : List A) → AllByRecursion (IsFound h) xs
    → length (filter_map h xs) ≡ length xs
found_count h [] found = refl
found_count h (x ∷ xs) found = rw found.0.1 (ap suc (found_count h xs found.1))

-- what is told of each is told of what is found for it
pub found_map : {A B C : Type 0} (h : A → Option B) (f : A → C) (g : B → C)
    → ((x : A) (y : B) → h x ≡ Some y → f x ≡ g y)
    → (xs : List A) → AllByRecursion (IsFound h) xs → map f xs ≡ map g (filter_map h xs)
found_map h f g same [] found = refl
found_map h f g same (x ∷ xs) found =
    rw found.0.1 (ap₂ (λ y ys. y ∷ ys) (same x found.0.0 found.0.1) (found_map h f g same xs found.1))

one_more : {B : Type 0} (Q : B → Type 0) (o : Option B) (ys : List B) → ((y : B) → o ≡ Some y → Q y)
    → AllByRecursion Q ys → AllByRecursion Q (cons_option o ys)
one_more Q None ys holds all = all
one_more Q (Some y) ys holds all = (holds y refl, all)

-- what holds of whatever is found holds of all that is
pub found_all : {A B : Type 0} (h : A → Option B) (P : A → Type 0) (Q : B → Type 0)
    → ((x : A) (y : B) → P x → h x ≡ Some y → Q y)
    → (xs : List A) → AllByRecursion P xs → AllByRecursion Q (filter_map h xs)
found_all h P Q follows [] all = tt
found_all h P Q follows (x ∷ xs) all =
    one_more Q (h x) (filter_map h xs) (λ y e. follows x y all.0 e) (found_all h P Q follows xs all.1)
