use Rattle.std.proofs.Common.{◌≡◌, ◌<◌, false, length, refl, arith}
use Rattle.std.specs.Prelude.{slice_set}
use Rattle.cm_model.specs.Order.{divisor}
use Rattle.cm_model.specs.State.{Loaded, is_active}
use Rattle.cm_desk.proofs.ChangeLemmas.{fit_after_configure}
use Rattle.cm_desk.proofs.KeptLemmas.{kept_after_change}
use Rattle.cm_desk.proofs.WorksLemmas.{there, within_there, can_be_configured, still_as_described}
use Rattle.cm_resources.proofs.DescribedLemmas.{kept_there}
use Rattle.cm_desk.proofs.WorksLemmas.{still_divided, divided_here, configured_slots, configured_there}
use Rattle.cm_desk.proofs.Insides.{base_in, state_of}
use Rattle.cm_desk.proofs.works.Works.configure_at.Goals as goal

-- it stands among the loaded ones
pub offset_bounds-as_slice-index : goal.offset_bounds-as_slice-index
offset_bounds-as_slice-index g c =
    let a = c.self.inside in
    let within : c.args.index < length a.slots.loaded =
    within_there (λ (m : Loaded). is_active m ≡ false) a.slots.loaded c.args.index
    (rw (← c.self.view_is) at c.requires) in
    omega (arith, within, c.self.invariant.few, c.self.invariant.counted)

pub bounds-as_slice-index : goal.bounds-as_slice-index
bounds-as_slice-index g c =
    let a = c.self.inside in
    let within : c.args.index < length a.slots.loaded =
    within_there (λ (m : Loaded). is_active m ≡ false) a.slots.loaded c.args.index
    (rw (← c.self.view_is) at c.requires) in
    rw (c.as_slice.ensures) within

-- and is of its described kind
pub described-controller-requires : goal.described-controller-requires
described-controller-requires g c =
    let a = c.self.inside in
    let l = c.index-as_slice-index.result in
    let here = there (λ (m : Loaded). is_active m ≡ false) a.slots.loaded c.args.index l
    (rw (← c.self.view_is) at c.requires) (rw (c.as_slice.ensures) at c.index-as_slice-index.is) in
    kept_there a.checked a.slots.loaded c.args.index l c.self.invariant.described here.0

pub configure-requires : goal.configure-requires
configure-requires g c =
    let a = c.self.inside in
    let l = c.index-as_slice-index.result in
    let d = c.described-controller.result.now in
    let here = there (λ (m : Loaded). is_active m ≡ false) a.slots.loaded c.args.index l
    (rw (← c.self.view_is) at c.requires) (rw (c.as_slice.ensures) at c.index-as_slice-index.is) in
    rw (here.0) (can_be_configured l d.params here.1 c.described-controller.ensures.own_kind
    c.described-controller.ensures.ranged)

-- it stays of its kind and is not active
pub invariant_of-self : goal.invariant_of-self
invariant_of-self g c =
    let a = c.self.inside in
    let s = state_of a in
    let l = c.index-as_slice-index.result in
    let d = c.described-controller.result.now in
    let here = there (λ (m : Loaded). is_active m ≡ false) a.slots.loaded c.args.index l
    (rw (← c.self.view_is) at c.requires) (rw (c.as_slice.ensures) at c.index-as_slice-index.is) in
    let same = kept_there a.checked a.slots.loaded c.args.index l c.self.invariant.described here.0 in
    let rate : c.divisor-divisor.result ≡ divisor a.checked.update_rate l.rate =
    rw (c.description.ensures.same, c.rate.ensures) at c.divisor-divisor.ensures in
    let made = configured_slots a.slots c.configure.new.self c.args.index l d.params c.divisor-divisor.result
    c.configure.result here.0
    (c.configure.ensures.configured l here.0) c.configure.ensures.unchanged in
    let after = still_as_described a.checked l made.0 d.params c.divisor-divisor.result c.configure.result made.1.1.0
    made.1.1.1 same here.1 in
    let divided =
    still_divided l made.0 d.params c.divisor-divisor.result c.configure.result made.1.1.0 made.1.1.1
    (divided_here a.slots.loaded c.args.index l c.self.invariant.divided here.0) in
    rw (made.1.0)
    (kept_after_change s a.names.items (base_in a) a.active_set c.args.index l made.0 c.self.invariant here.0 after.0
    divided after.1
    (fit_after_configure s c.args.index l here.0 c.self.invariant.fit d c.divisor-divisor.result made.0
    c.configure.result c.self.invariant.worked_out.valid here.1 rate
    made.1.1.0 made.1.1.1))

-- and is configured as it is described
pub returns : goal.returns
returns g c =
    let a = c.self.inside in
    let s = state_of a in
    let l = c.index-as_slice-index.result in
    let d = c.described-controller.result.now in
    let here = there (λ (m : Loaded). is_active m ≡ false) a.slots.loaded c.args.index l
    (rw (← c.self.view_is) at c.requires) (rw (c.as_slice.ensures) at c.index-as_slice-index.is) in
    let rate : c.divisor-divisor.result ≡ divisor a.checked.update_rate l.rate =
    rw (c.description.ensures.same, c.rate.ensures) at c.divisor-divisor.ensures in
    let made = configured_slots a.slots c.configure.new.self c.args.index l d.params c.divisor-divisor.result
    c.configure.result here.0
    (c.configure.ensures.configured l here.0) c.configure.ensures.unchanged in
    rw (← c.self.view_is, made.1.0)
    (configured_there s (record s { loaded = slice_set a.slots.loaded c.args.index made.0 }) c.args.index l made.0 d
    c.divisor-divisor.result c.configure.result here.0 here.1 c.described-controller.ensures.same rate refl
    made.1.1.0 c.configure.ensures.refused made.1.1.1)
