-- Lemmas about names that repeat.
use Rattle.std.proofs.Common.{◌≡◌, ℕ, Bool, List, [], ◌∷◌, ◌++◌, map, ap, ◌∙◌, Some, None, Ok, Err, inl, inr, refl}
use Rattle.std.specs.Prelude.{option_map}
use Rattle.std.specs.List.{list_any}
use Rattle.std.proofs.lemmas.Bool.{cases_Bool}
use Rattle.std.proofs.lemmas.List.{map-append}
use Rattle.cm_document.specs.Valid.{repeated_after, apart}
use Rattle.sequence.proofs.ListLemmas.{any_map}
use Rattle.cm_document.specs.declared.faults.CheckFault.TheVariants.{NameTwice}

-- what is seen of the first that repeats is the first of what is seen that does
pub repeated_seen : {A B : Type 0} (same : B → B → Bool) (f : A → B) (seen xs : List A)
    → repeated_after same (map f seen) (map f xs) ≡ option_map f (repeated_after (λ x y. same (f x) (f y)) seen xs)
repeated_seen same f seen [] = refl
repeated_seen same f seen (x ∷ xs) =
    elim (cases_Bool (list_any (λ y. same (f x) (f y)) seen)) [
      | inl found ↦ rw (any_map (same (f x)) f seen, found) refl
      | inr none ↦ rw (any_map (same (f x)) f seen, none, ← map-append f seen (x ∷ []))
          (repeated_seen same f (seen ++ x ∷ []) xs)
    ]

-- where nothing repeats, what is seen of it differs
pub apart_none : {A B : Type 0} (same : B → B → Bool) (text : B → List ℕ) (f : A → B) (xs : List A)
    → repeated_after (λ x y. same (f x) (f y)) [] xs ≡ None → apart same text (map f xs) ≡ Ok tt
apart_none same text f xs none = rw (repeated_seen same f [] xs ∙ ap (option_map f) none, apart) refl

-- the first that repeats is told by what is seen of it
pub apart_some : {A B : Type 0} (same : B → B → Bool) (text : B → List ℕ) (f : A → B) (xs : List A) (x : A)
    → repeated_after (λ x y. same (f x) (f y)) [] xs ≡ Some x
    → apart same text (map f xs) ≡ Err (NameTwice (text (f x)))
apart_some same text f xs x found = rw (repeated_seen same f [] xs ∙ ap (option_map f) found, apart) refl
