use Rattle.std.proofs.Common.{◌≡◌, ℕ, ◌+◌, ◌-◌, ◌<◌, Bool, true, false, List, length}
use Rattle.std.proofs.Common.{get_or, drop, Result, Err, inr, sym, ap, ap₂, ◌∙◌}
use Rattle.std.specs.Prelude.{◌==◌, if◌then◌else◌}
use Rattle.std.proofs.lemmas.Bool.{ne_eqb}
use Rattle.std.proofs.lemmas.List.{at_drop_more, get_or_read}
use Rattle.std.proofs.lemmas.List.Elements.{All-get_or}
use Rattle.cm_document.specs.Params.{kind_of}
use Rattle.cm_document.specs.declared.description.CtlDesc.{CtlDesc}
use Rattle.cm_document.specs.declared.description.CtlKind.{CtlKind}
use Rattle.cm_model.specs.Blanks.{blanks_of, with_count, with_one_less}
use Rattle.cm_model.specs.Order.{nobody, controller_at}
use Rattle.cm_model.specs.declared.blanks.Blanks.{Blanks}
use Rattle.spawn_plan.specs.Wanted.{have_blanks}
use Rattle.spawn_plan.specs.declared.fault.SpawnFault.{SpawnFault}
use Rattle.spawn_plan.specs.declared.fault.SpawnFault.TheVariants as fault
use Rattle.spawn_plan.proofs.wanted.have_blanks.Goals as goal

abbrev without_blank : List ℕ → Result (Unit {0}) SpawnFault
without_blank name = Err (fault.NoBlank name)

-- what comes of a controller of whose kind no blank is left, or one, and of the places behind it
abbrev at_next : List CtlDesc → Blanks → List ℕ → CtlDesc → Bool → Result (Unit {0}) SpawnFault
at_next controllers blanks rest c none =
    if none then without_blank c.name else have_blanks controllers (with_one_less blanks (kind_of c.params)) rest

-- what is left is its first place and the others
next_is : (controllers : List CtlDesc) (places : List ℕ) (i : ℕ) (blanks : Blanks) (c : CtlDesc) (none : Bool)
    → i < length places
    → controller_at controllers (get_or places i 0) ≡ c → (blanks_of blanks (kind_of c.params) == 0) ≡ none
    → have_blanks controllers blanks (drop i places) ≡ at_next controllers blanks (drop (i + 1) places) c none
next_is controllers places i blanks c none within same test =
    at_drop_more (have_blanks controllers blanks) places i 0 within
    ∙ ap (λ (d : CtlDesc). at_next controllers blanks (drop (i + 1) places) d
    (blanks_of blanks (kind_of d.params) == 0)) same
    ∙ ap (at_next controllers blanks (drop (i + 1) places) c) test

-- the controller that was looked up is that of the place
looked_up : (controllers : List CtlDesc) (place : ℕ) (c : CtlDesc) → place < length controllers
    → c ≡ get_or controllers place c → controller_at controllers place ≡ c
looked_up controllers place c within is = sym (get_or_read controllers place c within is nobody)

pub returns-then-count-eq0 : goal.returns-then-count-eq0
returns-then-count-eq0 c =
    let controllers = c.args.controllers.now in
    let places = c.args.places.now in
    let i = c.loop-place.place-index in
    let found = c.index-controllers-place.result in
    let within : get_or places i 0 < length controllers =
    All-get_or (λ (place : ℕ). place < length controllers) places i 0 c.loop-place-test.true c.requires in
    let counted : c.of-count.result ≡ blanks_of c.loop-place.left (kind_of found.params) =
    c.of-count.ensures ∙ ap (blanks_of c.loop-place.left) c.kind-kind.ensures in
    let test : (blanks_of c.loop-place.left (kind_of found.params) == 0) ≡ true =
    ap (λ (n : ℕ). n == 0) (sym counted ∙ c.if-count-eq0.true) in
    inr
    (sym c.loop-place.invariant
    ∙ next_is controllers places i c.loop-place.left found true c.loop-place-test.true
    (looked_up controllers (get_or places i 0) found within c.index-controllers-place.is) test
    ∙ ap without_blank (sym c.in_ok-clone.ensures.cases))

pub loop-place-preserved : goal.loop-place-preserved
loop-place-preserved c =
    let controllers = c.args.controllers.now in
    let places = c.args.places.now in
    let i = c.loop-place.place-index in
    let found = c.index-controllers-place.result in
    let within : get_or places i 0 < length controllers =
    All-get_or (λ (place : ℕ). place < length controllers) places i 0 c.loop-place-test.true c.requires in
    let counted : c.of-count.result ≡ blanks_of c.loop-place.left (kind_of found.params) =
    c.of-count.ensures ∙ ap (blanks_of c.loop-place.left) c.kind-kind.ensures in
    let test : (blanks_of c.loop-place.left (kind_of found.params) == 0) ≡ false =
    ap (λ (n : ℕ). n == 0) (sym counted) ∙ ne_eqb c.of-count.result 0 c.if-count-eq0.false in
    let left : c.with-left.result ≡ with_one_less c.loop-place.left (kind_of found.params) =
    c.with-left.ensures
    ∙ ap₂ (λ (k : CtlKind) (n : ℕ). with_count c.loop-place.left k n) c.kind-kind.ensures
    (ap (λ (n : ℕ). n - 1) counted) in
    ap (λ (b : Blanks). have_blanks controllers b (drop (i + 1) places)) left
    ∙ sym (next_is controllers places i c.loop-place.left found false c.loop-place-test.true
    (looked_up controllers (get_or places i 0) found within c.index-controllers-place.is) test)
    ∙ c.loop-place.invariant
