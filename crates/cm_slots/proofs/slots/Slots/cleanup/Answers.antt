use Rattle.std.proofs.Common.{◌≡◌, ◌<◌, None, length, option_map, refl, sym, ap, ◌∙◌, arith}
use Rattle.std.proofs.lemmas.List.{map-set}
use Rattle.std.proofs.lemmas.Option.{same_Some}
use Rattle.cm_model.specs.Console.{after_cleanup}
use Rattle.cm_model.specs.Controllers.{IsIdle}
use Rattle.cm_model.specs.State.{Loaded}
use Rattle.cm_slots.proofs.SlotsLemmas.{boxes_set, own_box, idle_is_home, there, within_some, as_many, shown}
use Rattle.cm_slots.proofs.WaitLemmas.{told_set}
use Rattle.cm_slots.proofs.slots.Slots.cleanup.Goals as goal

-- it does not run, so its box is there,
pub index_mut-requires : goal.index_mut-requires
index_mut-requires g c =
    let below : c.args.index < length c.self.inside.slots.items =
    within_some _ c.self.inside.slots.items c.args.index (rw (← c.self.view_is) at c.requires) in
    omega (arith, below)

pub index_mut-requires-2 : goal.index_mut-requires-2
index_mut-requires-2 g c =
    let a = c.self.inside in
    let below : c.args.index < length a.slots.items =
    within_some _ a.slots.items c.args.index (rw (← c.self.view_is) at c.requires) in
    omega (arith, below, as_many _ _ a.boxes.items a.slots.items c.self.invariant.0)

pub cleanup-requires-clause-home : goal.cleanup-requires-clause-home
cleanup-requires-clause-home g c =
    let a = c.self.inside in
    let l = c.index_mut.result.now in
    let here = there (λ (m : Loaded). IsIdle m.ctl) a.slots.items c.args.index l (rw (← c.self.view_is) at c.requires)
    c.index_mut.ensures.value in
    own_box g.C.Controller.meaning a.aloft a.boxes.items a.slots.items c.args.index c.index_mut-2.result.now l
    c.self.invariant.0 here.0 c.index_mut-2.ensures.value
    ∙ idle_is_home a.aloft l here.1.idle

pub cleanup-requires-clause-idle : goal.cleanup-requires-clause-idle
cleanup-requires-clause-idle g c =
    let a = c.self.inside in
    (there (λ (m : Loaded). IsIdle m.ctl) a.slots.items c.args.index c.index_mut.result.now
    (rw (← c.self.view_is) at c.requires) c.index_mut.ensures.value).1

-- and stays there, and its mail waits as before
pub invariant_of-self : goal.invariant_of-self
invariant_of-self g c =
    let a = c.self.inside in
    let l = c.index_mut.result.now in
    let new = c.cleanup.new.self in
    let here = there (λ (m : Loaded). IsIdle m.ctl) a.slots.items c.args.index l (rw (← c.self.view_is) at c.requires)
    c.index_mut.ensures.value in
    let still : new.ctl.run ≡ None = rw c.cleanup.ensures.slot refl in (
      map-set (option_map g.C.Controller.meaning) a.boxes.items c.args.index c.cleanup.new.box_slot
          ∙ boxes_set a.aloft _ a.slots.items c.args.index new
          (option_map g.C.Controller.meaning c.cleanup.new.box_slot) c.self.invariant.0
          (c.cleanup.ensures.home ∙ sym (idle_is_home a.aloft new still)),
      told_set a.mail_waits a.slots.items c.args.index l new here.0 (rw c.cleanup.ensures.slot refl) c.self.invariant.1,
    )

pub returns : goal.returns
returns g c = λ m found.
    let a = c.self.inside in
    let l = c.index_mut.result.now in
    let here = there (λ (x : Loaded). IsIdle x.ctl) a.slots.items c.args.index l (rw (← c.self.view_is) at c.requires)
    c.index_mut.ensures.value in
    let same : l ≡ m = same_Some l m (sym here.0 ∙ (rw (← c.self.view_is) at found)) in
    rw (← c.self.view_is)
    (ap (shown a.aloft _ a.slots.items c.args.index) (c.cleanup.ensures.slot ∙ ap after_cleanup same))
