use Rattle.std.proofs.Common.{◌≡◌, ◌+◌, ◌≤◌, length, vec_capacity, refl, sym, ◌∙◌, arith}
use Rattle.cm_document.specs.declared.call.Call.TheVariants.{Await}
use Rattle.cm_model.specs.Scheduled.{with_entry}
use Rattle.cm_model.specs.declared.reply.Reply.TheVariants.{Done}
use Rattle.cm_desk.specs.Desk.{owed}
use Rattle.cm_desk.proofs.RecordLemmas.{Recorded, recorded, few_after, room_after, await_step, await_waits}
use Rattle.cm_desk.proofs.desk.Desk.reached.Given.{Over}
use Rattle.cm_desk.proofs.desk.Desk.reached.Goals as goal
use Rattle.cm_desk.proofs.desk.Desk.reached.Goals.{After-push_reserved}

-- the call is a step where so many cycles have ended, and has one entry
entry : (g : Over) (c : After-push_reserved g)
    → Recorded c.self.inside.at_boot c.self.inside.works c.self.inside.works c.self.inside.history.items
    c.push_reserved.new.self.items c.args.who (Await c.args.cycles) Done
    (vec_capacity c.push_reserved.new.self) (vec_capacity c.self.inside.boxes)
entry g c =
    let a = c.self.inside in
    let call = Await c.args.cycles in
    let grown : c.push_reserved.new.self.items ≡ with_entry a.history.items c.args.who call Done =
    rw (c.push_reserved.ensures.items, c.make_room.ensures.history.0, c.in_ok-kept.ensures) refl in
    let stepped =
    await_step a.works c.args.who c.args.cycles (rw (← c.self.view_is) at c.requires.session)
    (sym c.is_reached.ensures ∙ c.if-not-is_reached.false) in
    let room : length a.history.items + 1 + owed a.works ≤ vec_capacity c.push_reserved.new.self =
    omega (arith, c.push_reserved.ensures.capacity, c.in_ok-make_room.ensures.room a.works) in
    recorded _ _ _ _ _ _ _ _ _ _ _ _ c.self.invariant.0 stepped grown
    (few_after a.works a.history.items _ c.args.who call Done c.in_ok-make_room.ensures.few grown)
    (room_after a.works a.history.items _ c.args.who call Done _ room grown) c.self.invariant.0.places

-- until then it cannot be made
pub returns-then-not-is_reached-clause-made : goal.returns-then-not-is_reached-clause-made
returns-then-not-is_reached-clause-made g c = (
  rw (← c.self.view_is, c.self.invariant.0.ends)
      (await_waits c.self.inside.works c.args.who c.args.cycles (rw (← c.self.view_is) at c.requires.session)
      (sym c.is_reached.ensures ∙ c.if-not-is_reached.true)),
  refl,
)

pub invariant_of-self-2 : goal.invariant_of-self-2
invariant_of-self-2 g c = ((entry g c).keeps, c.self.invariant.1)

pub returns-clause-made : goal.returns-clause-made
returns-clause-made g c = rw (← c.self.view_is) (entry g c).grows

pub returns-clause-kept : goal.returns-clause-kept
returns-clause-kept g c = rw (entry g c).keeps.ends (entry g c).keeps.few
