-- Lists that are read through a function, and items that are told apart by a number.
use Rattle.std.proofs.Common.{◌≡◌, ℕ, Bool, false, List, [], ◌∷◌, map, cond}
use Rattle.std.proofs.Common.{inl, inr, refl, sym, ◌∙◌, ap, ap₂, true≢false}
use Rattle.std.specs.Prelude.{◌==◌, filter}
use Rattle.std.specs.List.{AllByRecursion, IsDistinct, Contains}
use Rattle.std.proofs.lemmas.Bool.{eq-eqb}
use Rattle.switch_plan.proofs.ElementLemmas.{none_inside, first_or_later}
use Rattle.sound_laws.proofs.ParamsLemmas.{all_at}

-- ---- What is alike of each

-- what is read alike of each
pub map_alike : {A B : Type 0} (f g : A → B) (xs : List A) → AllByRecursion (λ x. f x ≡ g x) xs → map f xs ≡ map g xs
map_alike f g [] same = refl
map_alike f g (x ∷ xs) same = ap₂ (λ y ys. y ∷ ys) same.0 (map_alike f g xs same.1)

-- what passes alike of each
pub filter_alike : {A : Type 0} (f g : A → Bool) (xs : List A) → AllByRecursion (λ x. f x ≡ g x) xs
    → filter f xs ≡ filter g xs
filter_alike f g [] same = refl
filter_alike f g (x ∷ xs) same = ap₂ (λ b ys. cond b (x ∷ ys) ys) same.0 (filter_alike f g xs same.1)

-- ---- Numbers

-- an item is told by its number, where these differ
pub one_of_number : {A : Type 0} (number : A → ℕ) (xs : List A) → IsDistinct (λ m n. m == n) (map number xs) → (x y : A)
    → Contains xs x → Contains xs y
    → number x ≡ number y → x ≡ y
unfolding IsDistinct
one_of_number number [] once x y inside also same = absurd (none_inside x inside)
one_of_number {A} number (z ∷ zs) once x y inside also same =
    let others = from_map zs once.0 in
    elim (first_or_later z zs x inside) [
      | inl here ↦
          elim (first_or_later z zs y also) [
            | inl there ↦ sym here ∙ there
            | inr after ↦ absurd
                (true≢false (sym (eq-eqb (number z) (number y) (ap number here ∙ same))
                ∙ all_at (λ w. (number z == number w) ≡ false) zs others y after))
          ]
      | inr later ↦
          elim (first_or_later z zs y also) [
            | inl there ↦ absurd
                (true≢false (sym (eq-eqb (number z) (number x) (ap number there ∙ sym same))
                ∙ all_at (λ w. (number z == number w) ≡ false) zs others x later))
            | inr after ↦ one_of_number number zs once.1 x y later after same
          ]
    ]
  where
    from_map : (ws : List A) → AllByRecursion (λ n. (number z == n) ≡ false) (map number ws)
        → AllByRecursion (λ w. (number z == number w) ≡ false) ws
    from_map [] all = tt
    from_map (w ∷ ws) all = (all.0, from_map ws all.1)
