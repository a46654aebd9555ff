-- The mail that is aloft for one controller.
use Rattle.std.proofs.Common.{◌≡◌, ℕ, suc, ◌+◌, ◌≤◌, Bool, true, false, List, [], ◌∷◌, ◌++◌, length}
use Rattle.std.proofs.Common.{Option, Some, None, inl, inr, refl, sym, ap, ◌∙◌, append_assoc, arith}
use Rattle.std.specs.Prelude.{◌==◌, if◌then◌else◌, nat_lt, position, remove, slice_get}
use Rattle.std.specs.Prelude.{slice_index_or, option_map, option_to_list, filter_map}
use Rattle.std.specs.List.{position_or_len, cons_option}
use Rattle.std.proofs.lemmas.Bool.{cases_lt, lt-ltb}
use Rattle.std.proofs.lemmas.List.{append-nil, take_all, drop_all}
use Rattle.std.proofs.lemmas.List.Folds.{find_at}
use Rattle.std.proofs.lemmas.List.Quantifiers.{position-Some}
use Rattle.std.proofs.lemmas.Option.{same_Some, slice_get_past, slice_get-get_or}
use Rattle.cm_model.specs.State.{Loaded, MailAloft}
use Rattle.cm_slots.specs.Mails.{mail_in, without_mail, sent, with_sent, with_all_sent}

-- it is for the controller of this serial
abbrev pub is_for : ℕ → MailAloft → Bool
is_for serial m = m.serial == serial

remove_later : (m : MailAloft) (ms : List MailAloft) (n : ℕ) → remove (m ∷ ms) (1 + n) ≡ m ∷ remove ms n
remove_later m ms n =
    let one_more : 1 + n ≡ suc n = omega arith in
    ap (remove (m ∷ ms)) one_more

-- what is left is all but the first for it
left_is : (serial : ℕ) (ms : List MailAloft) → without_mail serial ms ≡ remove ms (position_or_len (is_for serial) ms)
left_is serial [] = refl
left_is serial (m ∷ ms) = either (m.serial == serial) refl (left_is serial ms)
  where
    either : (b : Bool) → (m.serial == serial) ≡ b
        → without_mail serial ms ≡ remove ms (position_or_len (is_for serial) ms)
        → without_mail serial (m ∷ ms) ≡ remove (m ∷ ms) (position_or_len (is_for serial) (m ∷ ms))
    either true e rest = rw e refl
    either false e rest =
        rw e (ap (λ (left : List MailAloft). m ∷ left) rest
        ∙ sym (remove_later m ms (position_or_len (is_for serial) ms)))

remove_past : {A : Type 0} (xs : List A) (i : ℕ) → length xs ≤ i → remove xs i ≡ xs
remove_past xs i past = rw (take_all i xs past, drop_all (suc i) xs (omega (arith, past))) (append-nil xs)

first_at : {A : Type 0} (test : A → Bool) (xs : List A) (i : ℕ) → position test xs ≡ Some i
    → position_or_len test xs ≡ i
first_at test xs i found = either (nat_lt (position_or_len test xs) (length xs)) refl found
  where
    either : (b : Bool) → nat_lt (position_or_len test xs) (length xs) ≡ b
        → (if b then Some (position_or_len test xs) else None) ≡ Some i → position_or_len test xs ≡ i
    either true e at = same_Some (position_or_len test xs) i at
    either false e at = cc

none_before_end : {A : Type 0} (test : A → Bool) (xs : List A) → position test xs ≡ None
    → length xs ≤ position_or_len test xs
none_before_end test xs none = elim (cases_lt (position_or_len test xs) (length xs)) [
  | inl inside ↦
      (let found : position test xs ≡ Some (position_or_len test xs) =
      rw (lt-ltb (position_or_len test xs) (length xs) inside) refl in
      let no : None ≡ Some (position_or_len test xs) = sym none ∙ found in cc)
  | inr past ↦ past
]

-- nothing is aloft for it
pub none_for : (serial : ℕ) (ms : List MailAloft) → position (is_for serial) ms ≡ None → mail_in ms serial ≡ None
none_for serial ms none =
    ap (option_map (λ (m : MailAloft). m.mail))
    (find_at (is_for serial) ms ∙ slice_get_past ms _ (none_before_end (is_for serial) ms none))

pub none_left_out : (serial : ℕ) (ms : List MailAloft) → position (is_for serial) ms ≡ None
    → without_mail serial ms ≡ ms
none_left_out serial ms none = left_is serial ms ∙ remove_past ms _ (none_before_end (is_for serial) ms none)

-- what stands at the first for it is aloft for it
pub mail_at : (serial : ℕ) (ms : List MailAloft) (i : ℕ) (m : MailAloft) → position (is_for serial) ms ≡ Some i
    → m ≡ slice_index_or ms i m → mail_in ms serial ≡ Some m.mail
mail_at serial ms i m found is =
    ap (option_map (λ (each : MailAloft). each.mail))
    (find_at (is_for serial) ms ∙ ap (slice_get ms) (first_at (is_for serial) ms i found)
    ∙ slice_get-get_or ms i m (position-Some (is_for serial) ms i m found).0 ∙ ap Some (sym is))

pub left_without : (serial : ℕ) (ms : List MailAloft) (i : ℕ) → position (is_for serial) ms ≡ Some i
    → without_mail serial ms ≡ remove ms i
left_without serial ms i found = left_is serial ms ∙ ap (remove ms) (first_at (is_for serial) ms i found)

-- ---- Mail that goes off

one_sent : (o : Option MailAloft) (rest : List MailAloft) → option_to_list o ++ rest ≡ cons_option o rest
one_sent None rest = refl
one_sent (Some m) rest = refl

-- what is sent of one after the other is what is sent of all
pub all_sent : (cycle : ℕ) (ls : List Loaded) (mails : List MailAloft)
    → with_all_sent cycle ls mails ≡ mails ++ filter_map (sent cycle) ls
all_sent cycle [] mails = sym (append-nil mails)
all_sent cycle (l ∷ ls) mails =
    all_sent cycle ls (with_sent cycle l mails)
    ∙ append_assoc mails (option_to_list (sent cycle l)) (filter_map (sent cycle) ls)
    ∙ ap (λ (rest : List MailAloft). mails ++ rest) (one_sent (sent cycle l) (filter_map (sent cycle) ls))
