use Rattle.std.proofs.Common.{◌≡◌, ◌≤◌, Bool, false, length, map, ap, ◌∙◌, arith}
use Rattle.cm_slots.specs.Slots.{box_of}
use Rattle.cm_slots.proofs.SlotsLemmas.{as_many, all_there, ctls_of}
use Rattle.cm_slots.proofs.slots.Slots.into_boxes.Goals as goal

pub boxes_of-requires-clause-home : goal.boxes_of-requires-clause-home
boxes_of-requires-clause-home g c =
    let a = c.self.inside in
    let home : a.aloft ≡ false = rw (← c.self.view_is) at c.requires.home in
    rw (c.self.invariant.0, home) (all_there a.slots.items)

pub boxes_of-requires-clause-places : goal.boxes_of-requires-clause-places
boxes_of-requires-clause-places g c =
    let a = c.self.inside in
    let room : length a.slots.items ≤ _ = rw (← c.self.view_is) at c.requires.places in
    omega (arith, room, as_many _ _ a.boxes.items a.slots.items c.self.invariant.0)

pub returns : goal.returns
returns g c =
    let a = c.self.inside in
    let home : a.aloft ≡ false = rw (← c.self.view_is) at c.requires.home in
    rw (← c.self.view_is)
    (ctls_of (map g.C.Controller.meaning c.boxes_of.result.items) a.slots.items
    (c.boxes_of.ensures ∙ c.self.invariant.0 ∙ ap (λ (b : Bool). map (box_of b) a.slots.items) home))
