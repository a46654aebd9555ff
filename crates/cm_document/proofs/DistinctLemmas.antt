-- Lists in which nothing stands twice: joined, mapped, read without a repeat, and seen by place.
use Rattle.std.proofs.Common.{◌≡◌, ℕ, ◌<◌, Bool, true, false, List, [], ◌∷◌, ◌++◌, map, Option, Some}
use Rattle.std.proofs.Common.{None, refl, sym, ap, ◌∙◌, append_assoc, append-nil, true≢false, inl, inr}
use Rattle.std.specs.Prelude.{if◌then◌else◌, flat_map, slice_get}
use Rattle.std.specs.List.{AllByRecursion, IsDistinct, list_any, find}
use Rattle.std.specs.Cmp.{IsEquivalence}
use Rattle.std.proofs.lemmas.Bool.{cases_Bool, cases_order}
use Rattle.std.proofs.lemmas.Option.{slice_get_within, get_or_from_slice_get}
use Rattle.std.proofs.lemmas.List.Concat.{flat_map-append}
use Rattle.std.proofs.lemmas.Map.Keys.{IsDistinct-push, apart_from_distinct}
use Rattle.cm_document.specs.Valid.{repeated_after}
use Rattle.sequence.proofs.ListLemmas.{all_append}

-- ---- What holds of all

-- what holds of any holds of all
pub all_of : {A : Type 0} (P : A → Type 0) → ((x : A) → P x) → (xs : List A) → AllByRecursion P xs
all_of P holds [] = tt
all_of P holds (x ∷ xs) = (holds x, all_of P holds xs)

-- what follows of each follows of all
pub all_so : {A : Type 0} (P Q : A → Type 0) → ((x : A) → P x → Q x) → (xs : List A) → AllByRecursion P xs
    → AllByRecursion Q xs
all_so P Q follows [] all = tt
all_so P Q follows (x ∷ xs) all = (follows x all.0, all_so P Q follows xs all.1)

-- what holds of what each becomes holds of all that they become
pub all_map : {A B : Type 0} (P : B → Type 0) (f : A → B) (xs : List A) → AllByRecursion (λ x. P (f x)) xs
    → AllByRecursion P (map f xs)
all_map P f [] all = tt
all_map P f (x ∷ xs) all = (all.0, all_map P f xs all.1)

-- what holds of all that each becomes holds of all that they become
pub all_flat_map : {A B : Type 0} (P : B → Type 0) (f : A → List B) (xs : List A)
    → AllByRecursion (λ x. AllByRecursion P (f x)) xs → AllByRecursion P (flat_map f xs)
all_flat_map P f [] all = tt
all_flat_map P f (x ∷ xs) all = all_append P (f x) (flat_map f xs) all.0 (all_flat_map P f xs all.1)

-- nothing found: none passes
pub none_found : {A : Type 0} (test : A → Bool) (xs : List A) → find test xs ≡ None
    → AllByRecursion (λ x. test x ≡ false) xs
none_found test [] none = tt
none_found test (x ∷ xs) none =
    elim (cases_Bool (test x)) [
      | inl passes ↦ (let h = rw passes at none in cc)
      | inr fails ↦ (fails, none_found test xs (rw fails at none))
    ]

-- ---- Joined and mapped

-- nothing of the one list is in the other
abbrev pub AreApart : {A : Type 0} → (A → A → Bool) → List A → List A → Type 0
AreApart same xs ys = AllByRecursion (λ x. AllByRecursion (λ y. same x y ≡ false) ys) xs

-- two lists that are apart, together
pub IsDistinct-append : {A : Type 0} (same : A → A → Bool) (xs ys : List A) → IsDistinct same xs → IsDistinct same ys
    → AreApart same xs ys → IsDistinct same (xs ++ ys)
unfolding IsDistinct
IsDistinct-append same [] ys one other apart = other
IsDistinct-append same (x ∷ xs) ys one other apart =
    (all_append (λ y. same x y ≡ false) xs ys one.0 apart.0, IsDistinct-append same xs ys one.1 other apart.1)

-- a map that keeps apart what differs
pub IsDistinct-map : {A B : Type 0} (same : A → A → Bool) (same' : B → B → Bool) (f : A → B)
    → ((x y : A) → same x y ≡ false → same' (f x) (f y) ≡ false)
    → (xs : List A) → IsDistinct same xs → IsDistinct same' (map f xs)
unfolding IsDistinct
IsDistinct-map same same' f keeps [] one = tt
IsDistinct-map same same' f keeps (x ∷ xs) one = (
  all_map (λ y. same' (f x) y ≡ false) f xs (all_so _ _ (keeps x) xs one.0),
  IsDistinct-map same same' f keeps xs one.1,
)

-- maps to lists, one after another
pub flat_map-flat_map : {A B C : Type 0} (f : B → List C) (g : A → List B) (xs : List A)
    → flat_map f (flat_map g xs) ≡ flat_map (λ x. flat_map f (g x)) xs
flat_map-flat_map f g [] = refl
flat_map-flat_map f g (x ∷ xs) =
    flat_map-append f (g x) (flat_map g xs) ∙ ap (λ l. flat_map f (g x) ++ l) (flat_map-flat_map f g xs)

-- ---- By place

module _ {A : Type 0} (same : A → A → Bool) (itself : (x : A) → same x x ≡ true) (xs : List A)
    (distinct : IsDistinct same xs) (x : A) where
  -- what stands at a place stands at no later one
  not_later : (p q : ℕ) → slice_get xs p ≡ Some x → slice_get xs q ≡ Some x → p < q → ⊥
  not_later p q at_p at_q before =
      let differ = apart_from_distinct same xs p q x distinct before (slice_get_within xs q x at_q) in
      let alike : same x x ≡ false =
      rw (get_or_from_slice_get xs p x x at_p, get_or_from_slice_get xs q x x at_q) at differ in
      true≢false (sym (itself x) ∙ alike)

  -- it stands at one place alone
  pub one_place : (p q : ℕ) → slice_get xs p ≡ Some x → slice_get xs q ≡ Some x → p ≡ q
  one_place p q at_p at_q = elim (cases_order p q) [
    | inl alike ↦ alike
    | inr (inl before) ↦ absurd (not_later p q at_p at_q before)
    | inr (inr after) ↦ absurd (not_later q p at_q at_p after)
  ]

-- ---- Without a repeat

-- no repeat was found: this is none, and there is none further on
no_repeat : {A : Type 0} (found : Bool) (x : A) (further : Option A) → (if found then Some x else further) ≡ None
    → (found ≡ false) × (further ≡ None)
no_repeat true x further none = cc
no_repeat false x further none = (refl, none)

-- where none is repeated, nothing stands twice among those seen and these
pub repeated_after-IsDistinct : {A : Type 0} (same : A → A → Bool) → IsEquivalence same → (seen xs : List A)
    → repeated_after same seen xs ≡ None
    → IsDistinct same seen → IsDistinct same (seen ++ xs)
repeated_after-IsDistinct same laws seen [] none distinct = rw (append-nil seen) distinct
repeated_after-IsDistinct same laws seen (x ∷ xs) none distinct =
    let here = no_repeat (list_any (same x) seen) x (repeated_after same (seen ++ x ∷ []) xs) none in
    let more = repeated_after-IsDistinct same laws (seen ++ x ∷ []) xs here.1
    (IsDistinct-push laws seen x distinct here.0) in
    rw (append_assoc seen (x ∷ []) xs) at more
