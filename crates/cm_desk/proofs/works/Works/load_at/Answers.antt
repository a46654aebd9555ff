use Rattle.std.proofs.Common.{◌≡◌, ◌<◌, ◌+◌, ◌∙◌, None, Some, false, refl, subst, arith}
use Rattle.std.specs.Prelude.{◌==◌, slice_get}
use Rattle.std.proofs.lemmas.Bool.{ne_eqb}
use Rattle.cm_document.specs.Params.{kind_of}
use Rattle.cm_model.specs.Blanks.{blanks_of, with_one_less}
use Rattle.cm_model.specs.Machine.{is_sold_out_at, with_controller}
use Rattle.cm_model.specs.State.{State, Loaded, is_active}
use Rattle.cm_desk.proofs.KeptLemmas.{kept_after_load}
use Rattle.cm_model.proofs.BlankLemmas.{one_less}
use Rattle.cm_desk.specs.Works.{state_with}
use Rattle.cm_desk.proofs.Insides.{base_in, state_of}
use Rattle.cm_desk.proofs.WorksLemmas.{sold_out}
use Rattle.cm_desk.proofs.works.Works.load_at.Goals as goal

-- the new controller is of the described kind, and not active
pub invariant_of-self-2 : goal.invariant_of-self-2
invariant_of-self-2 g c =
    let a = c.self.inside in
    let s = state_of a in
    let d = c.described_at-controller.result.now in
    let l : Loaded = record {
      serial = a.loads;
      place = c.args.place;
      rate = d.rate;
      divisor = None;
      ctl = g.C.Controller.meaning c.in-Some.blank;
      mail = None;
    } in
    let some : 0 < blanks_of a.blanks (kind_of d.params) = rw (c.kind.ensures) at c.in-Some.ensures.1 in
    let kind : l.ctl.kind ≡ kind_of d.params = rw (c.in-Some.ensures.0) c.kind.ensures in
    let idle : is_active l ≡ false = rw (c.in-Some.ensures.0) refl in
    rw (c.load.ensures, c.reserve.ensures.same.0, c.reserve.ensures.same.1, c.in-Some.ensures.2, c.kind.ensures)
    (kept_after_load s a.names.items (base_in a) a.active_set (with_one_less a.blanks (kind_of d.params)) l
    c.self.invariant
    (rw (c.described_at-controller.ensures.same, kind) refl) (rw (c.in-Some.ensures.0) (λ no. cc)) idle refl refl refl
    (one_less a.blanks (kind_of d.params) some))

-- a blank was left, so there is a serial for it,
pub overflow_add-self : goal.overflow_add-self
overflow_add-self g c =
    let a = c.self.inside in
    let kind = kind_of c.described_at-controller.result.now.params in
    let some : 0 < blanks_of a.blanks kind = rw (c.kind.ensures) at c.in-Some.ensures.1 in
    omega (arith, c.self.invariant.counted, one_less a.blanks kind some)

-- and that controller is loaded
pub returns-clause-made : goal.returns-clause-made
returns-clause-made g c =
    let a = c.self.inside in
    let s = state_of a in
    let d = c.described_at-controller.result.now in
    let place = c.args.place in
    let at : slice_get s.description.controllers place ≡ Some d = c.described_at-controller.ensures.same in
    let some : 0 < blanks_of a.blanks (kind_of d.params) = rw (c.kind.ensures) at c.in-Some.ensures.1 in
    let left : (blanks_of a.blanks (kind_of d.params) == 0) ≡ false =
    ne_eqb (blanks_of a.blanks (kind_of d.params)) 0 (λ none. omega (arith, none, some)) in
    let after = state_with a.checked c.take.new.self a.sessions (a.loads + 1) c.load.new.self a.requests (base_in a)
    a.ended a.closed in
    let loaded : after ≡ with_controller s place (Some d) =
    rw (
      c.load.ensures,
      c.reserve.ensures.same.0,
      c.reserve.ensures.same.1,
      c.in-Some.ensures.2,
      c.in-Some.ensures.0,
      c.kind.ensures,
    ) refl in
    subst (λ (t : State). (is_sold_out_at t place ≡ false) × (a.loads ≡ t.loads)
    × (after ≡ with_controller t place (slice_get t.description.controllers place))) c.self.view_is
    (sold_out s place d at ∙ left, refl, rw (at) loaded)
