use Rattle.std.proofs.Common.{◌≡◌, ◌<◌, false, refl, sym, ◌∙◌}
use Rattle.std.specs.Prelude.{length, slice_set}
use Rattle.cm_model.specs.Console.{rate_refusals, after_rate}
use Rattle.cm_model.specs.State.{is_active}
use Rattle.cm_desk.proofs.ChangeLemmas.{fit_rate}
use Rattle.cm_desk.proofs.KeptLemmas.{kept_after_change}
use Rattle.cm_desk.proofs.WorksLemmas.{stands_here, divided_here, changed_there}
use Rattle.cm_desk.proofs.Insides.{base_in, state_of}
use Rattle.cm_desk.proofs.works.Works.rate.Goals as goal

-- its kind and whether it is active stay
pub invariant_of-self : goal.invariant_of-self
invariant_of-self g c =
    let a = c.self.inside in
    let s = state_of a in
    let l = c.index-as_slice-index.result in
    let within : c.in-Some.index < length a.slots.loaded = rw (← c.self.view_is) at c.in-Some.ensures.within in
    let here = stands_here a.checked a.slots.loaded c.in-Some.index l c.self.invariant.described within
    (rw (c.as_slice.ensures) at c.index-as_slice-index.is) in
    rw (c.set_rate.ensures l here.0)
    (kept_after_change s a.names.items (base_in a) a.active_set c.in-Some.index l (after_rate c.args.hz l)
    c.self.invariant here.0 here.1
    (divided_here a.slots.loaded c.in-Some.index l c.self.invariant.divided here.0)
    (record { serial = refl; place = refl; active = refl })
    (fit_rate s c.in-Some.index l here.0 c.self.invariant.fit c.args.hz))

pub returns : goal.returns
returns g c =
    let a = c.self.inside in
    let s = state_of a in
    let l = c.index-as_slice-index.result in
    let within : c.in-Some.index < length a.slots.loaded = rw (← c.self.view_is) at c.in-Some.ensures.within in
    let here = stands_here a.checked a.slots.loaded c.in-Some.index l c.self.invariant.described within
    (rw (c.as_slice.ensures) at c.index-as_slice-index.is) in
    let idle : is_active l ≡ false = sym c.is_active.ensures.active ∙ c.if-is_active.false in
    rw (← c.self.view_is, c.set_rate.ensures l here.0)
    (changed_there s (record s { loaded = slice_set a.slots.loaded c.in-Some.index (after_rate c.args.hz l) })
    c.args.name.now c.in-Some.index l (after_rate c.args.hz l)
    rate_refusals (after_rate c.args.hz) (rw (← c.self.view_is) at c.in-Some.ensures.found) here.0 (rw idle refl) refl
    refl)
