use Rattle.std.proofs.Common.{◌≡◌, ◌<◌, true, false, refl, sym, ◌∙◌}
use Rattle.std.specs.Prelude.{length, slice_set}
use Rattle.cm_model.specs.Console.{is_inactive, cleanup_refusals, after_cleanup}
use Rattle.cm_model.specs.State.{is_active}
use Rattle.cm_slots.proofs.LifeLemmas.{idle_where_inactive}
use Rattle.cm_desk.proofs.ChangeLemmas.{fit_cleanup, idle_of_inactive}
use Rattle.cm_desk.proofs.KeptLemmas.{kept_after_change}
use Rattle.cm_desk.proofs.WorksLemmas.{stands_here, changed_there}
use Rattle.cm_desk.proofs.Insides.{base_in, state_of}
use Rattle.cm_desk.proofs.works.Works.cleanup.Goals as goal

pub cleanup-requires : goal.cleanup-requires
cleanup-requires g c =
    let a = c.self.inside in
    let l = c.index-as_slice-index.result in
    let within : c.in-Some.index < length a.slots.loaded = rw (← c.self.view_is) at c.in-Some.ensures.within in
    let here = stands_here a.checked a.slots.loaded c.in-Some.index l c.self.invariant.described within
    (rw (c.as_slice.ensures) at c.index-as_slice-index.is) in
    let inactive : is_inactive l ≡ true = sym c.is_inactive.ensures.inactive ∙ c.if-not-is_inactive.false in
    rw (here.0) (idle_where_inactive l inactive)

-- what was found inactive is what is cleaned up: its kind stays, and it is not active
pub invariant_of-self : goal.invariant_of-self
invariant_of-self g c =
    let a = c.self.inside in
    let s = state_of a in
    let l = c.index-as_slice-index.result in
    let within : c.in-Some.index < length a.slots.loaded = rw (← c.self.view_is) at c.in-Some.ensures.within in
    let here = stands_here a.checked a.slots.loaded c.in-Some.index l c.self.invariant.described within
    (rw (c.as_slice.ensures) at c.index-as_slice-index.is) in
    let inactive : is_inactive l ≡ true = sym c.is_inactive.ensures.inactive ∙ c.if-not-is_inactive.false in
    let idle : is_active l ≡ false = idle_of_inactive l inactive in
    rw (c.cleanup.ensures l here.0)
    (kept_after_change s a.names.items (base_in a) a.active_set c.in-Some.index l (after_cleanup l) c.self.invariant
    here.0 here.1 (λ no. cc)
    (record { serial = refl; place = refl; active = sym idle })
    (fit_cleanup s c.in-Some.index l here.0 c.self.invariant.fit idle))

pub returns : goal.returns
returns g c =
    let a = c.self.inside in
    let s = state_of a in
    let l = c.index-as_slice-index.result in
    let within : c.in-Some.index < length a.slots.loaded = rw (← c.self.view_is) at c.in-Some.ensures.within in
    let here = stands_here a.checked a.slots.loaded c.in-Some.index l c.self.invariant.described within
    (rw (c.as_slice.ensures) at c.index-as_slice-index.is) in
    let inactive : is_inactive l ≡ true = sym c.is_inactive.ensures.inactive ∙ c.if-not-is_inactive.false in
    rw (← c.self.view_is, c.cleanup.ensures l here.0)
    (changed_there s (record s { loaded = slice_set a.slots.loaded c.in-Some.index (after_cleanup l) }) c.args.name.now
    c.in-Some.index l (after_cleanup l)
    cleanup_refusals after_cleanup (rw (← c.self.view_is) at c.in-Some.ensures.found) here.0 (rw inactive refl) refl
    refl)
