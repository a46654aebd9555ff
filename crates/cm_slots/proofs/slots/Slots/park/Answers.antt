use Rattle.std.proofs.Common.{◌≡◌, Bool, true, List, length, map, option_map, refl, ap, ◌∙◌, arith}
use Rattle.std.proofs.lemmas.List.{with_items_is, length-map}
use Rattle.cm_model.specs.declared.data.CtlData.{CtlData}
use Rattle.cm_slots.specs.Slots.{box_of}
use Rattle.cm_slots.proofs.ParkLemmas.{run_within, are_home, are_after_cycle}
use Rattle.cm_slots.proofs.SlotsLemmas.{as_many}
use Rattle.cm_slots.proofs.WaitLemmas.{told_parked}
use Rattle.cm_slots.proofs.slots.Slots.park.Goals as goal

-- each index has a slot, and a place for its box
pub park_each-requires : goal.park_each-requires
park_each-requires g c =
    let a = c.self.inside in
    let can = rw (← c.self.view_is) at c.requires in
    rw (c.deref_mut.ensures.value, c.deref_mut-2.ensures.value) (record {
      within = run_within can.run.0 a.slots.items c.args.run.now can.run.1;
      places = length-map a.boxes.items (option_map g.C.Controller.meaning)
          ∙ as_many _ _ a.boxes.items a.slots.items c.self.invariant.0;
      as_many = can.as_many;
      running = can.running;
    })

-- so all boxes are home, and no mail is posted
pub invariant_of-self : goal.invariant_of-self
invariant_of-self g c =
    let a = c.self.inside in
    let can = rw (← c.self.view_is) at c.requires in
    let ctls : List CtlData = map g.C.Controller.meaning c.args.boxes.now.items in
    let away : map (option_map g.C.Controller.meaning) a.boxes.items ≡ map (box_of true) a.slots.items =
    c.self.invariant.0 ∙ ap (λ (b : Bool). map (box_of b) a.slots.items) can.lent in
    let slots : length c.park_each.new.slots ≡ a.slots.len = omega arith in
    let boxes : length c.park_each.new.boxes ≡ a.boxes.len = omega arith in
    rw (
      with_items_is a.slots c.park_each.new.slots slots,
      with_items_is a.boxes c.park_each.new.boxes boxes,
      c.park_each.ensures.back.slots,
      c.park_each.ensures.back.boxes,
      c.deref_mut.ensures.value,
      c.deref_mut-2.ensures.value,
      away,
    ) (
      are_home can.run.0 a.slots.items c.args.run.now can.run.1 ctls can.as_many,
      told_parked a.mail_waits c.args.run.now ctls a.slots.items c.self.invariant.1,
    )

pub returns-clause-parked : goal.returns-clause-parked
returns-clause-parked g c =
    let a = c.self.inside in
    let ctls : List CtlData = map g.C.Controller.meaning c.args.boxes.now.items in
    let slots : length c.park_each.new.slots ≡ a.slots.len = omega arith in
    record {
      slots = rw (← c.self.view_is) refl;
      landed = λ s runs are.
          with_items_is a.slots c.park_each.new.slots slots
          ∙ (rw (c.deref_mut.ensures.value) at c.park_each.ensures.back.slots)
          ∙ are_after_cycle s a.slots.items c.args.run.now (rw (← c.self.view_is) at runs) ctls are;
    }
