-- Claims that stand on one joint.
use Rattle.std.proofs.Common.{◌≡◌, ℕ, suc, ◌+◌, ◌-◌, ◌<◌, Bool, true, false, List, []}
use Rattle.std.proofs.Common.{◌∷◌, Option, Some, None, inl, inr, refl, sym, ◌∙◌, arith}
use Rattle.std.specs.Prelude.{not, ◌&&◌, ◌==◌, find}
use Rattle.std.specs.List.{list_any, range_with_len}
use Rattle.std.proofs.lemmas.Bool.{cases_Bool, and_left, and_right, or_parts, or_from}
use Rattle.cm_model.specs.declared.component.JointInterface.{JointInterface}
use Rattle.cm_model.specs.Components.{stands_on, is_contested, claim_on}

module _ (p : ℕ → Bool) where
  -- one of these stands there that is not this one
  abbrev another : ℕ → List ℕ → Bool
  another a xs = list_any (λ b. p b && not (a == b)) xs

  -- one of these stands there beside another one of those
  abbrev two : List ℕ → List ℕ → Bool
  two xs zs = list_any (λ a. p a && another a zs) xs

  -- where none stands there, no two do
  none_two : (xs zs : List ℕ) → find p xs ≡ None → two xs zs ≡ false
  none_two [] zs none = refl
  none_two (x ∷ xs) zs none = elim (cases_Bool (p x)) [
    | inl stands ↦ let e = rw stands at none in cc
    | inr not_so ↦ rw not_so (none_two xs zs (rw not_so at none))
  ]

  -- the first that stands there stands beside another one
  first_of_two : (xs zs : List ℕ) (a : ℕ) → find p xs ≡ Some a → another a zs ≡ true → two xs zs ≡ true
  first_of_two [] zs a first others = let e = first in cc
  first_of_two (x ∷ xs) zs a first others = elim (cases_Bool (p x)) [
    | inl stands ↦ let e : x ≡ a = (let f = rw stands at first in cc) in rw (stands, e, others) refl
    | inr not_so ↦ rw not_so (first_of_two xs zs a (rw not_so at first) others)
  ]

  -- where no other one stands there than this, no two do
  no_two : (xs zs : List ℕ) (a : ℕ) → another a zs ≡ false → another a xs ≡ false → two xs zs ≡ false
  no_two [] zs a none here = refl
  no_two (x ∷ xs) zs a none here =
      let parts = or_parts (p x && not (a == x)) (another a xs) here in
      or_from (p x && another x zs) (two xs zs) (elim (cases_Bool (p x)) [
        | inl stands ↦ let same : a ≡ x =
            grind (arith, stands, parts.0) in and_right (p x) (another x zs) (rw (← same) none)
        | inr not_so ↦ and_left (p x) (another x zs) not_so
      ]) (no_two xs zs a none parts.1)

  -- two of these stand there exactly where another one stands there than the first
  beside_first : (xs : List ℕ) (a : ℕ) → find p xs ≡ Some a → two xs xs ≡ another a xs
  beside_first xs a first = elim (cases_Bool (another a xs)) [
    | inl others ↦ first_of_two xs xs a first others ∙ sym others
    | inr none ↦ no_two xs xs a none none ∙ sym none
  ]

-- no claim stands on the joint, so no two do
pub uncontested : (commands : List JointInterface) (claims : List ℕ) (joint : ℕ) → claim_on commands claims joint ≡ None
    → is_contested commands claims joint ≡ false
uncontested commands claims joint none = none_two (stands_on commands joint) claims claims none

-- one claim stands on the joint, so two do where another one does
pub contested : (commands : List JointInterface) (claims : List ℕ) (joint first : ℕ)
    → claim_on commands claims joint ≡ Some first
    → is_contested commands claims joint
    ≡ list_any (λ claim. stands_on commands joint claim && not (first == claim)) claims
contested commands claims joint first is = beside_first (stands_on commands joint) claims first is

-- the least joint at odds among those that are left, where the first of these is not
pub least_further : (test : ℕ → Bool) (joint n : ℕ) (least : Option ℕ) → joint < n → test joint ≡ false
    → find test (range_with_len joint (n - joint)) ≡ least
    → find test (range_with_len (joint + 1) (n - (joint + 1))) ≡ least
least_further test joint n least below clear so_far =
    let one_more : n - joint ≡ suc (n - (joint + 1)) = omega (arith, below) in
    rw clear at (rw one_more at so_far)
