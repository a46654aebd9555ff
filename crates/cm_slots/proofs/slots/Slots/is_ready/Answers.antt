use Rattle.std.proofs.Common.{◌≡◌, ◌<◌, false, Some, length, refl, sym, ap, ◌∙◌, arith}
use Rattle.std.specs.Prelude.{slice_get}
use Rattle.std.proofs.lemmas.Option.{same_Some, slice_get_read}
use Rattle.cm_model.specs.Controllers.{is_ready}
use Rattle.cm_model.specs.State.{Loaded}
use Rattle.cm_slots.proofs.SlotsLemmas.{own_box, as_many}
use Rattle.cm_slots.proofs.slots.Slots.is_ready.Goals as goal

pub index-requires-2 : goal.index-requires-2
index-requires-2 g c =
    let a = c.self.inside in
    let below : c.args.index < length a.slots.items = rw (← c.self.view_is) at c.requires.within in
    omega (arith, below, as_many _ _ a.boxes.items a.slots.items c.self.invariant.0)

-- no box is away
pub is_ready-requires : goal.is_ready-requires
is_ready-requires g c =
    let a = c.self.inside in
    let l = c.index.result.now in
    let home : a.aloft ≡ false = rw (← c.self.view_is) at c.requires.home in
    let below : c.args.index < length a.slots.items = rw (← c.self.view_is) at c.requires.within in
    let stands : slice_get a.slots.items c.args.index ≡ Some l =
    slice_get_read a.slots.items (length a.slots.items) c.args.index l refl below c.index.ensures in
    own_box g.C.Controller.meaning a.aloft a.boxes.items a.slots.items c.args.index c.index-2.result.now l
    c.self.invariant.0 stands c.index-2.ensures ∙ rw home refl

pub returns : goal.returns
returns g c = λ m found.
    let a = c.self.inside in
    let l = c.index.result.now in
    let below : c.args.index < length a.slots.items = rw (← c.self.view_is) at c.requires.within in
    let stands : slice_get a.slots.items c.args.index ≡ Some l =
    slice_get_read a.slots.items (length a.slots.items) c.args.index l refl below c.index.ensures in
    c.is_ready.ensures
    ∙ ap (λ (x : Loaded). is_ready x.ctl c.args.cycle) (same_Some l m (sym stands ∙ (rw (← c.self.view_is) at found)))
