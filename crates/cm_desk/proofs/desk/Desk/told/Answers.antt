use Rattle.std.proofs.Common.{◌≡◌, ◌+◌, ◌≤◌, length, Some, vec_capacity, refl, sym, arith}
use Rattle.std.specs.Prelude.{slice_get}
use Rattle.cm_document.specs.declared.call.Call.TheVariants.{Told}
use Rattle.cm_model.specs.Scheduled.{with_entry}
use Rattle.cm_model.specs.declared.reply.Reply.TheVariants.{Outcome}
use Rattle.cm_desk.specs.Desk.{owed}
use Rattle.cm_desk.proofs.RecordLemmas.{Recorded, recorded, few_after, room_after, told_step, told_waits}
use Rattle.cm_desk.proofs.desk.Desk.told.Given.{Over}
use Rattle.cm_desk.proofs.desk.Desk.told.Goals as goal
use Rattle.cm_desk.proofs.desk.Desk.told.Goals.{After-push_reserved}

-- the call is a step where the request is decided, and has one entry
entry : (g : Over) (c : After-push_reserved g)
    → Recorded c.self.inside.at_boot c.self.inside.works c.self.inside.works c.self.inside.history.items
    c.push_reserved.new.self.items c.args.who (Told c.args.ticket)
    (Outcome c.in-Some.outcome.now) (vec_capacity c.push_reserved.new.self) (vec_capacity c.self.inside.boxes)
entry g c =
    let a = c.self.inside in
    let o = c.in-Some.outcome.now in
    let call = Told c.args.ticket in
    let told : slice_get a.works.outcomes c.args.ticket ≡ Some o = sym c.in-Some.ensures in
    let grown : c.push_reserved.new.self.items ≡ with_entry a.history.items c.args.who call (Outcome o) =
    rw (c.push_reserved.ensures.items, c.make_room.ensures.history.0, c.in_ok-entry.ensures) refl in
    let stepped = told_step a.works c.args.who c.args.ticket o (rw (← c.self.view_is) at c.requires.session) told in
    let room : length a.history.items + 1 + owed a.works ≤ vec_capacity c.push_reserved.new.self =
    omega (arith, c.push_reserved.ensures.capacity, c.in_ok-make_room.ensures.room a.works) in
    recorded _ _ _ _ _ _ _ _ _ _ _ _ c.self.invariant.0 stepped grown
    (few_after a.works a.history.items _ c.args.who call (Outcome o) c.in_ok-make_room.ensures.few grown)
    (room_after a.works a.history.items _ c.args.who call (Outcome o) _ room grown) c.self.invariant.0.places

-- until then it cannot be made
pub returns-in_default-clause-made : goal.returns-in_default-clause-made
returns-in_default-clause-made g c = (
  rw (← c.self.view_is, c.self.invariant.0.ends)
      (told_waits c.self.inside.works c.args.who c.args.ticket (rw (← c.self.view_is) at c.requires.session)
      (sym c.in_default.ensures)),
  refl,
)

pub invariant_of-self-2 : goal.invariant_of-self-2
invariant_of-self-2 g c = ((entry g c).keeps, c.self.invariant.1)

pub returns-clause-made : goal.returns-clause-made
returns-clause-made g c = rw (← c.self.view_is, c.in_ok-told.ensures) (entry g c).grows

pub returns-clause-kept : goal.returns-clause-kept
returns-clause-kept g c = rw (entry g c).keeps.ends (entry g c).keeps.few
