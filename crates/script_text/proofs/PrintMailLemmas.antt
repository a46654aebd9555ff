-- What is sent and what a switch names prints as words that read back.
use Rattle.std.proofs.Common.{◌≡◌, ℕ, ◌*◌, ◌<◌, ◌≤◌, Bool, true, false, List, [], ◌∷◌, ◌++◌, length}
use Rattle.std.proofs.Common.{map, Some, ℤ, refl, sym, ap, ◌∙◌, arith, append_assoc, length-append}
use Rattle.std.specs.Prelude.{nat_lt, ◌==◌, flat_map, filter_map, codes}
use Rattle.std.specs.List.{AllByRecursion, list_all}
use Rattle.std.specs.Fmt.{decimal}
use Rattle.std.proofs.lemmas.Bool.{and_parts}
use Rattle.std.proofs.lemmas.Bool.Decides.{nat_tests}
use Rattle.std.proofs.lemmas.List.{length-map, append-nil}
use Rattle.std.proofs.lemmas.List.Folds.{flat_map-map}
use Rattle.std.proofs.lemmas.Grind.{flat_map-append}
use Rattle.fixed_num.specs.Micro.{IsInRange}
use Rattle.fixed_num.specs.Text.{spelled}
use Rattle.iface_names.specs.Names.{is_letter, is_name_byte}
use Rattle.cm_document.specs.Vocabulary.{listed, strictnesses, strictness_word}
use Rattle.cm_document.specs.CallText.{values_text, point_text, mail_text, pick_text, signed_text}
use Rattle.cm_document.specs.LineGrammar.{whole_word, value_word, in_front, all_words, values_in, untimed}
use Rattle.cm_document.specs.LineGrammar.{timed, points_after, mail_in, pick_word, behind, is_signed, switch_in}
use Rattle.cm_document.specs.Given.{IsName}
use Rattle.cm_document.specs.ScriptLaws.{IsPick, AreValues, ArePointsAfter, CanBeSent, CanBeAsked}
use Rattle.cm_document.specs.declared.call.Mail.{Mail}
use Rattle.cm_document.specs.declared.call.Mail.TheVariants.{Values, Points}
use Rattle.cm_document.specs.declared.call.Pick.{Pick}
use Rattle.cm_document.specs.declared.call.Pick.TheVariants.{One, Group}
use Rattle.cm_document.specs.declared.call.Point2.{Point2}
use Rattle.cm_document.specs.declared.call.SwitchRequest.{SwitchRequest}
use Rattle.sequence.proofs.ListLemmas.{all_append}
use Rattle.script_text.proofs.PrintWordLemmas.{IsWord, spaced}
use Rattle.script_text.proofs.PrintValueLemmas.{IsShown, name_IsWord, name_short, whole_IsWord, whole_short}
use Rattle.script_text.proofs.PrintValueLemmas.{whole_reads, value_IsWord, value_short, value_reads, value_untimed}

-- ---- Values

-- the words of values
abbrev pub value_words : List ℤ → List (List ℕ)
value_words values = map spelled values

pub values_spaced : (vs : List ℤ) → values_text vs ≡ spaced (value_words vs)
values_spaced vs = sym (flat_map-map (λ w. 32 ∷ w) spelled vs)

values_are_words : (vs : List ℤ) → AllByRecursion IsInRange vs → AllByRecursion IsWord (value_words vs)
values_are_words [] all = tt
values_are_words (v ∷ vs) all = (value_IsWord v all.0, values_are_words vs all.1)

values_short : (vs : List ℤ) → AllByRecursion IsInRange vs → AllByRecursion (λ w. length w ≤ 18) (value_words vs)
values_short [] all = tt
values_short (v ∷ vs) all = (value_short v all.0, values_short vs all.1)

all_values_read : (vs : List ℤ) → AllByRecursion IsInRange vs → all_words value_word (value_words vs) ≡ Some vs
all_values_read [] all = refl
all_values_read (v ∷ vs) all =
    ap (λ o. in_front o (all_words value_word (value_words vs))) (value_reads v all.0)
    ∙ ap (λ o. in_front (Some v) o) (all_values_read vs all.1)

values_read : (vs : List ℤ) → AreValues vs → values_in (value_words vs) ≡ Some vs
values_read [] are = absurd (omega (arith, are.some))
values_read (v ∷ vs) are = all_values_read (v ∷ vs) are.in_range

-- ---- Points

-- the words of points
abbrev pub point_words : List Point2 → List (List ℕ)
point_words [] = []
point_words (p ∷ ps) = (64 ∷ decimal p.at_us) ∷ (value_words p.values ++ point_words ps)

pub points_spaced : (ps : List Point2) → flat_map point_text ps ≡ spaced (point_words ps)
points_spaced [] = refl
points_spaced (p ∷ ps) =
    let together : values_text p.values ++ flat_map point_text ps ≡ spaced (value_words p.values ++ point_words ps)
    = ap (λ t. t ++ flat_map point_text ps) (values_spaced p.values)
    ∙ ap (λ t. spaced (value_words p.values) ++ t) (points_spaced ps)
    ∙ sym (flat_map-append (λ w. 32 ∷ w) (value_words p.values) (point_words ps)) in
    ap (λ t. 32 ∷ 64 ∷ t)
    (append_assoc (decimal p.at_us) (values_text p.values) (flat_map point_text ps)
    ∙ ap (λ t. decimal p.at_us ++ t) together)

time_IsWord : (n : ℕ) → n ≤ 999999999 → IsWord (64 ∷ decimal n)
time_IsWord n small = let w = whole_IsWord n small in record { some = omega arith; shown = (omega arith, w.shown) }

points_are_words : (before : ℕ) (ps : List Point2) → ArePointsAfter before ps → AllByRecursion IsWord (point_words ps)
points_are_words before [] all = tt
points_are_words before (p ∷ ps) all = (
  time_IsWord p.at_us all.0.soon,
  all_append IsWord (value_words p.values) (point_words ps) (values_are_words p.values all.0.valued.in_range)
      (points_are_words p.at_us ps all.1),
)

points_short : (before : ℕ) (ps : List Point2) → ArePointsAfter before ps
    → AllByRecursion (λ w. length w ≤ 18) (point_words ps)
points_short before [] all = tt
points_short before (p ∷ ps) all =
    let time = whole_short p.at_us all.0.soon in (
      omega arith,
      all_append (λ w. length w ≤ 18) (value_words p.values) (point_words ps)
          (values_short p.values all.0.valued.in_range) (points_short p.at_us ps all.1),
    )

points_few : (before : ℕ) (ps : List Point2) → ArePointsAfter before ps → length (point_words ps) ≤ length ps * 33
points_few before [] all = omega arith
points_few before (p ∷ ps) all =
    let more = points_few p.at_us ps all.1 in
    let few = all.0.valued.few in
    let together = length-append (value_words p.values) (point_words ps) in
    let as_many = length-map p.values spelled in
    omega arith

-- the values before the next time are the point's
untimed_values : (vs : List ℤ) (ps : List Point2) → AllByRecursion IsInRange vs
    → untimed (value_words vs ++ point_words ps) ≡ value_words vs
untimed_values [] [] all = refl
untimed_values [] (p ∷ ps) all = refl
untimed_values (v ∷ vs) ps all = rw (value_untimed v all.0) (ap (λ ws. spelled v ∷ ws) (untimed_values vs ps all.1))

-- and begin no point
timed_values : (vs : List ℤ) (ws : List (List ℕ)) → AllByRecursion IsInRange vs
    → timed (value_words vs ++ ws) ≡ timed ws
timed_values [] ws all = refl
timed_values (v ∷ vs) ws all = rw (value_untimed v all.0) (timed_values vs ws all.1)

-- a point that is read before those that are read
point_read : (before t : ℕ) (digits : List ℕ) (ws : List (List ℕ)) (vs : List ℤ)
    (groups : List (List ℕ × List (List ℕ))) (ps : List Point2)
    → whole_word digits ≡ Some t → values_in ws ≡ Some vs → nat_lt before t ≡ true → points_after t groups ≡ Some ps
    → points_after before ((64 ∷ digits, ws) ∷ groups) ≡ Some (record { at_us = t; values = vs } ∷ ps)
point_read before t digits ws vs groups ps time values later more = rw (time, values, later, more) refl

points_read : (before : ℕ) (ps : List Point2) → ArePointsAfter before ps
    → points_after before (timed (point_words ps)) ≡ Some ps
points_read before [] all = refl
points_read before (p ∷ ps) all =
    let later : nat_lt before p.at_us ≡ true = grind (arith, nat_tests, all.0.later) in
    ap (λ ws. points_after before ((64 ∷ decimal p.at_us, ws) ∷ timed (value_words p.values ++ point_words ps)))
    (untimed_values p.values ps all.0.valued.in_range)
    ∙ ap (λ gs. points_after before ((64 ∷ decimal p.at_us, value_words p.values) ∷ gs))
    (timed_values p.values (point_words ps) all.0.valued.in_range)
    ∙ point_read before p.at_us (decimal p.at_us) (value_words p.values) p.values (timed (point_words ps)) ps
    (whole_reads p.at_us all.0.soon) (values_read p.values all.0.valued) later (points_read p.at_us ps all.1)

-- ---- Mail

-- the words of what is sent
abbrev pub mail_words : Mail → List (List ℕ)
mail_words (Values vs) = value_words vs
mail_words (Points ps) = point_words ps

pub mail_spaced : (mail : Mail) → mail_text mail ≡ spaced (mail_words mail)
mail_spaced (Values vs) = values_spaced vs
mail_spaced (Points ps) = points_spaced ps

pub mail_are_words : (mail : Mail) → CanBeSent mail → AllByRecursion IsWord (mail_words mail)
mail_are_words (Values vs) sent = values_are_words vs sent.in_range
mail_are_words (Points ps) sent = points_are_words 0 ps sent.rising

pub mail_short : (mail : Mail) → CanBeSent mail → AllByRecursion (λ w. length w ≤ 18) (mail_words mail)
mail_short (Values vs) sent = values_short vs sent.in_range
mail_short (Points ps) sent = points_short 0 ps sent.rising

pub mail_few : (mail : Mail) → CanBeSent mail → length (mail_words mail) ≤ 2112
mail_few (Values vs) sent = let few = sent.few in let as_many = length-map vs spelled in omega arith
mail_few (Points ps) sent = let few = sent.few in let words = points_few 0 ps sent.rising in omega arith

pub mail_reads : (mail : Mail) → CanBeSent mail → mail_in (mail_words mail) ≡ Some mail
mail_reads (Values []) sent = absurd (omega (arith, sent.some))
mail_reads (Values (v ∷ vs)) sent = rw (value_untimed v sent.in_range.0, values_read (v ∷ vs) sent) refl
mail_reads (Points []) sent = absurd (omega (arith, sent.some))
mail_reads (Points (p ∷ ps)) sent = rw (points_read 0 (p ∷ ps) sent.rising) refl

-- ---- Switches

-- a name is no group behind an `@`
no_at : (b : ℕ) (bs : List ℕ) → IsName (b ∷ bs) → (b == 64) ≡ false
no_at b bs h =
    let front = and_parts _ (list_all is_name_byte (b ∷ bs)) h in
    let letter = (and_parts (is_letter b) _ front.0).0 in
    grind (arith, nat_tests, letter)

pick_reads : (pick : Pick) → IsPick pick → pick_word (pick_text pick) ≡ Some pick
pick_reads (One []) h = cc
pick_reads (One (b ∷ bs)) h = rw (no_at b bs h, h) refl
pick_reads (Group name) h = rw h refl

pick_IsShown : (pick : Pick) → IsPick pick → IsShown (pick_text pick)
pick_IsShown (One name) h = (name_IsWord name h).shown
pick_IsShown (Group name) h = (omega arith, (name_IsWord name h).shown)

pick_short : (pick : Pick) → IsPick pick → length (pick_text pick) ≤ 65
pick_short (One name) h = let short = name_short name h in omega arith
pick_short (Group name) h = let short = name_short name h in omega arith

-- picks, each behind a sign
abbrev pub signed_words : ℕ → List Pick → List (List ℕ)
signed_words sign picks = map (λ pick. sign ∷ pick_text pick) picks

-- those to deactivate before those to activate
abbrev pub asked_words : SwitchRequest → List (List ℕ)
asked_words r = signed_words 45 r.off ++ signed_words 43 r.on

signed_spaced : (sign : ℕ) (picks : List Pick) → signed_text (sign ∷ []) picks ≡ spaced (signed_words sign picks)
signed_spaced sign picks = sym (flat_map-map (λ w. 32 ∷ w) (λ pick. sign ∷ pick_text pick) picks)

pub asked_spaced : (r : SwitchRequest)
    → signed_text (codes "-") r.off ++ signed_text (codes "+") r.on ≡ spaced (asked_words r)
asked_spaced r =
    ap (λ t. t ++ signed_text (codes "+") r.on) (signed_spaced 45 r.off)
    ∙ ap (λ t. spaced (signed_words 45 r.off) ++ t) (signed_spaced 43 r.on)
    ∙ sym (flat_map-append (λ w. 32 ∷ w) (signed_words 45 r.off) (signed_words 43 r.on))

signed_are_words : (sign : ℕ) (picks : List Pick) → 32 < sign → AllByRecursion IsPick picks
    → AllByRecursion IsWord (signed_words sign picks)
signed_are_words sign [] shown all = tt
signed_are_words sign (pick ∷ picks) shown all =
    (record { some = omega arith; shown = (shown, pick_IsShown pick all.0) }, signed_are_words sign picks shown all.1)

signed_short : (sign : ℕ) (picks : List Pick) → AllByRecursion IsPick picks
    → AllByRecursion (λ w. length w ≤ 66) (signed_words sign picks)
signed_short sign [] all = tt
signed_short sign (pick ∷ picks) all = let short = pick_short pick all.0 in (omega arith, signed_short sign picks all.1)

pub asked_are_words : (r : SwitchRequest) → CanBeAsked r → AllByRecursion IsWord (asked_words r)
asked_are_words r asked =
    all_append IsWord (signed_words 45 r.off) (signed_words 43 r.on) (signed_are_words 45 r.off (omega arith) asked.off)
    (signed_are_words 43 r.on (omega arith) asked.on)

pub asked_short : (r : SwitchRequest) → CanBeAsked r → AllByRecursion (λ w. length w ≤ 66) (asked_words r)
asked_short r asked =
    all_append (λ w. length w ≤ 66) (signed_words 45 r.off) (signed_words 43 r.on) (signed_short 45 r.off asked.off)
    (signed_short 43 r.on asked.on)

pub asked_few : (r : SwitchRequest) → CanBeAsked r → length (asked_words r) ≤ 128
asked_few r asked =
    let few = asked.few in
    let together = length-append (signed_words 45 r.off) (signed_words 43 r.on) in
    let off = length-map r.off (λ pick. 45 ∷ pick_text pick) in
    let on = length-map r.on (λ pick. 43 ∷ pick_text pick) in
    omega arith

-- picks behind the sign that is looked for, before other words
picks_behind : (sign : ℕ) (picks : List Pick) (ws : List (List ℕ)) → (sign == sign) ≡ true → AllByRecursion IsPick picks
    → filter_map (behind sign) (signed_words sign picks ++ ws) ≡ picks ++ filter_map (behind sign) ws
picks_behind sign [] ws same all = refl
picks_behind sign (pick ∷ picks) ws same all =
    rw (same, pick_reads pick all.0) (ap (λ more. pick ∷ more) (picks_behind sign picks ws same all.1))

-- and behind another
none_behind : (sign other : ℕ) (picks : List Pick) (ws : List (List ℕ)) → (other == sign) ≡ false
    → filter_map (behind sign) (signed_words other picks ++ ws) ≡ filter_map (behind sign) ws
none_behind sign other [] ws apart = refl
none_behind sign other (pick ∷ picks) ws apart = rw apart (none_behind sign other picks ws apart)

all_signed : (picks : List Pick) (ws : List (List ℕ)) → AllByRecursion IsPick picks → list_all is_signed ws ≡ true
    → (list_all is_signed (signed_words 43 picks ++ ws) ≡ true)
    × (list_all is_signed (signed_words 45 picks ++ ws) ≡ true)
all_signed [] ws all more = (more, more)
all_signed (pick ∷ picks) ws all more =
    let rest = all_signed picks ws all.1 more in (rw (pick_reads pick all.0) rest.0, rw (pick_reads pick all.0) rest.1)

-- a list alone is one before nothing
alone : {A : Type 0} (read : List (List ℕ) → A) (ws : List (List ℕ)) → read ws ≡ read (ws ++ [])
alone read ws = ap read (sym (append-nil ws))

asked_in : (strict : Bool) (on off : List Pick) → AllByRecursion IsPick on → AllByRecursion IsPick off
    → switch_in (Some strict) (signed_words 45 off ++ signed_words 43 on)
    ≡ Some (record { on = on; off = off; strict = strict })
asked_in strict on off named_on named_off =
    let all : list_all is_signed (signed_words 45 off ++ signed_words 43 on) ≡ true
    = (all_signed off (signed_words 43 on) named_off
    (alone (list_all is_signed) (signed_words 43 on) ∙ (all_signed on [] named_on refl).0)).1 in
    let plus : filter_map (behind 43) (signed_words 45 off ++ signed_words 43 on) ≡ on
    = none_behind 43 45 off (signed_words 43 on) refl ∙ alone (filter_map (behind 43)) (signed_words 43 on)
    ∙ picks_behind 43 on [] refl named_on ∙ append-nil on in
    let minus : filter_map (behind 45) (signed_words 45 off ++ signed_words 43 on) ≡ off
    = picks_behind 45 off (signed_words 43 on) refl named_off
    ∙ ap (λ more. off ++ more) (alone (filter_map (behind 45)) (signed_words 43 on) ∙ none_behind 45 43 on [] refl)
    ∙ append-nil off in
    rw (all, plus, minus) refl

strictness_read : (strict : Bool) → listed strictnesses (strictness_word strict) ≡ Some strict
strictness_read true = refl
strictness_read false = refl

pub asked_reads : (r : SwitchRequest) → CanBeAsked r
    → switch_in (listed strictnesses (strictness_word r.strict)) (asked_words r) ≡ Some r
asked_reads r asked =
    ap (λ s. switch_in s (asked_words r)) (strictness_read r.strict) ∙ asked_in r.strict r.on r.off asked.on asked.off
