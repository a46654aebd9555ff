-- The words of a switch, read one by one from the front.
use Rattle.std.proofs.Common.{◌≡◌, ℕ, Bool, true, false, List, [], ◌∷◌, ◌++◌, Some, None}
use Rattle.std.proofs.Common.{refl, sym, ◌∙◌, append_assoc, append-nil, inl, inr, arith}
use Rattle.std.specs.Prelude.{filter_map, ◌==◌, if◌then◌else◌}
use Rattle.std.specs.List.{list_all}
use Rattle.std.proofs.lemmas.Bool.{cases_Bool}
use Rattle.std.proofs.lemmas.Bool.Decides.{nat_tests}
use Rattle.cm_document.specs.LineGrammar.{behind, is_signed, pick_word, switch_in}
use Rattle.cm_document.specs.declared.call.Pick.{Pick}

-- These picks were read from the front of a text's words, and these words are left.
pub record Switched (on off : List Pick) (left text : List (List ℕ)) : Type 0 where
  pub signed : list_all is_signed left ≡ list_all is_signed text
  pub activated : on ++ filter_map (behind 43) left ≡ filter_map (behind 43) text
  pub deactivated : off ++ filter_map (behind 45) left ≡ filter_map (behind 45) text

-- nothing was read yet
pub Switched_none : (text : List (List ℕ)) → Switched [] [] text text
Switched_none text = record { signed = refl; activated = refl; deactivated = refl }

-- a byte is one sign alone
one_sign : (b : ℕ) → (b == 43) ≡ true → (b == 45) ≡ false
one_sign b h = grind (arith, nat_tests)

-- a word with a pick behind `+` has none behind `-`
not_behind_both : (w : List ℕ) (n : Pick) → behind 43 w ≡ Some n → behind 45 w ≡ None
not_behind_both [] n h = cc
not_behind_both (b ∷ bs) n h = elim (cases_Bool (b == 43)) [
  | inl e ↦ rw (one_sign b e) refl
  | inr e ↦ let none : (if b == 43 then pick_word bs else None) ≡ None = rw e refl in cc
]

-- a pick to activate was read
pub Switched_on : (on off : List Pick) (left text : List (List ℕ)) (w : List ℕ) (ws : List (List ℕ)) (n : Pick)
    → Switched on off left text → left ≡ w ∷ ws → behind 43 w ≡ Some n
    → Switched (on ++ n ∷ []) off ws text
Switched_on on off left text w ws n so_far cut is =
    let other : behind 45 w ≡ None = not_behind_both w n is in
    record {
      signed = (rw (cut, is) refl) ∙ so_far.signed;
      activated = append_assoc on (n ∷ []) (filter_map (behind 43) ws) ∙ rw (cut, is) at so_far.activated;
      deactivated = rw (cut, other) at so_far.deactivated;
    }

-- a pick to deactivate was read
pub Switched_off : (on off : List Pick) (left text : List (List ℕ)) (w : List ℕ) (ws : List (List ℕ)) (n : Pick)
    → Switched on off left text → left ≡ w ∷ ws → behind 43 w ≡ None → behind 45 w ≡ Some n
    → Switched on (off ++ n ∷ []) ws text
Switched_off on off left text w ws n so_far cut other is = record {
  signed = (rw (cut, other, is) refl) ∙ so_far.signed;
  activated = rw (cut, other) at so_far.activated;
  deactivated = append_assoc off (n ∷ []) (filter_map (behind 45) ws) ∙ rw (cut, is) at so_far.deactivated;
}

-- all words were read
pub Switched_end : (strict : Bool) (on off : List Pick) (left text : List (List ℕ)) → Switched on off left text
    → left ≡ [] → switch_in (Some strict) text ≡ Some (record { on = on; off = off; strict = strict })
Switched_end strict on off left text so_far cut =
    let all : list_all is_signed text ≡ true = sym so_far.signed ∙ rw cut refl in
    let first : filter_map (behind 43) text ≡ on = sym so_far.activated ∙ rw cut (append-nil on) in
    let second : filter_map (behind 45) text ≡ off = sym so_far.deactivated ∙ rw cut (append-nil off) in
    rw (all, first, second) refl

-- a word without a sign was read
pub Switched_bad : (strict : Bool) (on off : List Pick) (left text : List (List ℕ)) (w : List ℕ) (ws : List (List ℕ))
    → Switched on off left text → left ≡ w ∷ ws → behind 43 w ≡ None → behind 45 w ≡ None
    → switch_in (Some strict) text ≡ None
Switched_bad strict on off left text w ws so_far cut first second =
    let none : list_all is_signed text ≡ false = sym so_far.signed ∙ rw (cut, first, second) refl in
    rw none refl

pub ruleset signed_so_far = (Switched_none, Switched_on, Switched_off, Switched_end, Switched_bad)
