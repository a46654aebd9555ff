use Rattle.std.proofs.Common.{◌≡◌, ◌<◌, false, List, Option, length, option_map, sym, ap, ◌∙◌, arith}
use Rattle.std.specs.List.{remove}
use Rattle.std.proofs.lemmas.Option.{same_Some}
use Rattle.cm_model.proofs.SteadyLemmas.{all_remove}
use Rattle.cm_model.specs.State.{Loaded, is_active}
use Rattle.cm_model.specs.declared.data.CtlData.{CtlData}
use Rattle.cm_slots.specs.Mails.{WaitsAsTold}
use Rattle.cm_slots.specs.Slots.{box_of}
use Rattle.cm_slots.proofs.SlotsLemmas.{map_remove, own_box, still_is_home, there, within_some, as_many}
use Rattle.cm_slots.proofs.slots.Slots.unload.Goals as goal

pub remove-slot-requires : goal.remove-slot-requires
remove-slot-requires g c =
    let below : c.args.index < length c.self.inside.slots.items =
    within_some _ c.self.inside.slots.items c.args.index (rw (← c.self.view_is) at c.requires) in
    omega (arith, below)

pub remove-requires : goal.remove-requires
remove-requires g c =
    let a = c.self.inside in
    let below : c.args.index < length a.slots.items =
    within_some _ a.slots.items c.args.index (rw (← c.self.view_is) at c.requires) in
    omega (arith, below, as_many _ _ a.boxes.items a.slots.items c.self.invariant.0)

-- it does not run, so its box is there
pub into_ctl-requires : goal.into_ctl-requires
into_ctl-requires g c =
    let a = c.self.inside in
    let l = c.remove-slot.result in
    let here = there (λ (m : Loaded). is_active m ≡ false) a.slots.items c.args.index l
    (rw (← c.self.view_is) at c.requires) c.remove-slot.ensures.value in
    own_box g.C.Controller.meaning a.aloft a.boxes.items a.slots.items c.args.index c.remove.result l c.self.invariant.0
    here.0 c.remove.ensures.value
    ∙ still_is_home a.aloft l here.1

-- the others are where they were
pub invariant_of-self : goal.invariant_of-self
invariant_of-self g c =
    let a = c.self.inside in
    rw (c.remove-slot.ensures.items, c.remove.ensures.items) (
      map_remove (option_map g.C.Controller.meaning) a.boxes.items c.args.index
          ∙ ap (λ (boxes : List (Option CtlData)). remove boxes c.args.index) c.self.invariant.0
          ∙ sym (map_remove (box_of a.aloft) a.slots.items c.args.index),
      all_remove (WaitsAsTold a.mail_waits) a.slots.items c.args.index c.self.invariant.1,
    )

pub returns-clause-given : goal.returns-clause-given
returns-clause-given g c = λ m found.
    let a = c.self.inside in
    let l = c.remove-slot.result in
    let here = there (λ (m : Loaded). is_active m ≡ false) a.slots.items c.args.index l
    (rw (← c.self.view_is) at c.requires) c.remove-slot.ensures.value in
    c.into_ctl.ensures ∙ ap (λ (x : Loaded). x.ctl) (same_Some l m (sym here.0 ∙ (rw (← c.self.view_is) at found)))
