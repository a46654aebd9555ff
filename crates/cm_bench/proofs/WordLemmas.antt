-- Two words, and what they ask for.
use Rattle.std.proofs.Common.{◌≡◌, ℕ, List, [], ◌∷◌, length, get_or, Option, None, Some, refl, subst, arith}
use Rattle.std.specs.Prelude.{MatchOption}

-- a list of two is the one at each of its indexes
pub list_of_two : {A : Type 0} (xs : List A) (x y : A) → length xs ≡ 2 → x ≡ get_or xs 0 x → y ≡ get_or xs 1 y
    → xs ≡ x ∷ y ∷ []
list_of_two [] x y two first second = cc
list_of_two (a ∷ []) x y two first second = cc
list_of_two (a ∷ b ∷ []) x y two first second = cc
list_of_two (a ∷ b ∷ c ∷ xs) x y two first second = absurd (omega (arith, two))

-- two words of which nothing is so are none that are so of anything
none_of_two : {A : Type 0} (Are : List ℕ → List ℕ → A → Type 0) (x y : List ℕ) → ((a : A) → ¬ Are x y a)
    → (a : A) → ¬ ((u : List ℕ) × (v : List ℕ) × (x ∷ y ∷ [] ≡ u ∷ v ∷ []) × Are u v a)
none_of_two Are x y none a (u, v, same, are) =
    let first : u ≡ x = cc in
    let second : v ≡ y = cc in
    none a (subst (λ w. Are x w a) second (subst (λ w. Are w v a) first are))

-- What is so of two words is so of the list of both.
pub of_two : {A : Type 0} (Are : List ℕ → List ℕ → A → Type 0) (x y : List ℕ) (answer : Option A)
    → MatchOption answer ((a : A) → ¬ Are x y a) (Are x y)
    → MatchOption answer ((a : A) → ¬ ((u : List ℕ) × (v : List ℕ) × (x ∷ y ∷ [] ≡ u ∷ v ∷ []) × Are u v a))
    (λ a. (u : List ℕ) × (v : List ℕ) × (x ∷ y ∷ [] ≡ u ∷ v ∷ []) × Are u v a)
of_two Are x y None none = none_of_two Are x y none
of_two Are x y (Some a) are = (x, y, refl, are)
