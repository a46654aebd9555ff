use Rattle.std.proofs.Common.{◌≡◌, Bool, false, length, map, option_map, refl, sym, ap, subst, ◌∙◌, arith}
use Rattle.std.specs.List.{AllByRecursion}
use Rattle.std.proofs.lemmas.List.{with_items_is, length-map}
use Rattle.cm_document.specs.declared.life.Life.TheVariants.{Active}
use Rattle.cm_slots.specs.Lives.{IsKept}
use Rattle.cm_slots.specs.Slots.{box_of}
use Rattle.cm_slots.proofs.LentLemmas.{may_leave, ctls_are, all_others_stay}
use Rattle.cm_slots.proofs.ParkLemmas.{run_within}
use Rattle.cm_slots.proofs.slots.Slots.lend.Goals as goal

-- the boxes of those that run are there
pub lend_each-requires : goal.lend_each-requires
lend_each-requires g c =
    let a = c.self.inside in
    let can = rw (← c.self.view_is) at c.requires in
    let home : map (option_map g.C.Controller.meaning) a.boxes.items ≡ map (box_of false) a.slots.items =
    c.self.invariant.0 ∙ ap (λ (b : Bool). map (box_of b) a.slots.items) can.home in
    let none : length c.args.boxes.now.items ≡ 0 =
    sym (length-map c.args.boxes.now.items g.C.Controller.meaning) ∙ ap length can.empty in
    rw (c.deref.ensures.value, c.deref_mut.ensures.value, home) (record {
      can = may_leave can.run.0 a.slots.items c.args.run.now can.run.1;
      within = run_within can.run.0 a.slots.items c.args.run.now can.run.1;
      places = length-map a.slots.items (box_of false);
      room = omega (arith, none, can.room);
    })

-- all others stay
pub invariant_of-self : goal.invariant_of-self
invariant_of-self g c =
    let a = c.self.inside in
    let can = rw (← c.self.view_is) at c.requires in
    let home : map (option_map g.C.Controller.meaning) a.boxes.items ≡ map (box_of false) a.slots.items =
    c.self.invariant.0 ∙ ap (λ (b : Bool). map (box_of b) a.slots.items) can.home in
    let boxes : length c.lend_each.new.boxes ≡ a.boxes.len = omega arith in
    rw (
      with_items_is a.boxes c.lend_each.new.boxes boxes,
      c.lend_each.ensures.left.left,
      c.deref_mut.ensures.value,
      home,
    )
    (all_others_stay can.run.0 a.slots.items c.args.run.now can.run.1, c.self.invariant.1)

-- and they are theirs
pub returns-clause-lent : goal.returns-clause-lent
returns-clause-lent g c =
    let a = c.self.inside in
    let can = rw (← c.self.view_is) at c.requires in
    let left = c.lend_each.ensures.left in
    record {
      slots = rw (← c.self.view_is) refl;
      boxes = λ s runs. (rw (c.deref.ensures.value, can.empty) at left.lent)
          ∙ ctls_are s a.slots.items c.args.run.now (rw (← c.self.view_is) at runs);
      running = left.running (subst (AllByRecursion (IsKept Active)) (sym can.empty) tt);
    }
