use Rattle.std.proofs.Common.{◌≡◌, None, Some, [], ◌∷◌, ◌++◌, option_map, refl, sym, ap, ap₂, ◌∙◌}
use Rattle.std.specs.Prelude.{nat_lt, vec_len, vec_capacity}
use Rattle.std.proofs.lemmas.Bool.{and_parts, ltb-true}
use Rattle.std.proofs.lemmas.List.{map-append}
use Rattle.sequence.proofs.ListLemmas.{all_push}
use Rattle.cm_model.specs.declared.data.CtlData.{CtlData}
use Rattle.cm_slots.specs.Mails.{WaitsAsTold}
use Rattle.cm_slots.specs.Slots.{box_of}
use Rattle.cm_slots.proofs.SlotsLemmas.{idle_is_home}
use Rattle.cm_slots.proofs.slots.Slots.load.Goals as goal

-- there is room
pub push_reserved-requires : goal.push_reserved-requires
push_reserved-requires g c =
    let a = c.self.inside in
    ltb-true (vec_len a.slots) (vec_capacity a.slots)
    (and_parts (nat_lt (vec_len a.slots) (vec_capacity a.slots)) (nat_lt (vec_len a.boxes) (vec_capacity a.boxes))
    (rw (← c.self.view_is) at c.requires.room)).0

pub push_reserved-requires-2 : goal.push_reserved-requires-2
push_reserved-requires-2 g c =
    let a = c.self.inside in
    ltb-true (vec_len a.boxes) (vec_capacity a.boxes)
    (and_parts (nat_lt (vec_len a.slots) (vec_capacity a.slots)) (nat_lt (vec_len a.boxes) (vec_capacity a.boxes))
    (rw (← c.self.view_is) at c.requires.room)).1

-- a blank does not run, so its box is there, and no mail waits for it
pub invariant_of-self : goal.invariant_of-self
invariant_of-self g c =
    let a = c.self.inside in
    let slot = c.new-slot.result in
    let blank : CtlData = g.C.Controller.meaning c.args.blank in
    let still : slot.ctl.run ≡ None = rw c.new-slot.ensures (ap (λ (ctl : CtlData). ctl.run) c.requires.blank) in
    let own : Some blank ≡ box_of a.aloft slot =
    sym (idle_is_home a.aloft slot still ∙ ap Some (rw c.new-slot.ensures refl)) in
    rw (c.push_reserved.ensures.items, c.push_reserved-2.ensures.items) (
      map-append (option_map g.C.Controller.meaning) a.boxes.items (Some c.args.blank ∷ [])
          ∙ ap₂ (λ xs box. xs ++ box ∷ []) c.self.invariant.0 own
          ∙ sym (map-append (box_of a.aloft) a.slots.items (slot ∷ [])),
      all_push (WaitsAsTold a.mail_waits) a.slots.items slot c.self.invariant.1 (λ none. rw c.new-slot.ensures refl),
    )
