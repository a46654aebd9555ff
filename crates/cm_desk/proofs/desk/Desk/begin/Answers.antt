use Rattle.std.proofs.Common.{◌≡◌, ◌+◌, ◌≤◌, length, Some, vec_capacity, refl, sym, ap, subst, ◌∙◌, arith}
use Rattle.cm_document.specs.declared.call.Call.TheVariants.{Begin}
use Rattle.cm_model.specs.Boundary.{begin_reply}
use Rattle.cm_model.specs.Machine.{step}
use Rattle.cm_model.specs.Scheduled.{with_entry}
use Rattle.cm_model.specs.State.{State}
use Rattle.cm_desk.specs.Desk.{History, owed, now_of, seen, Grows}
use Rattle.cm_desk.proofs.BeginLemmas.{begin_step}
use Rattle.cm_desk.proofs.BegunLemmas.{begun_begins, is_out}
use Rattle.cm_desk.proofs.RecordLemmas.{Recorded, recorded, few_after, room_after, begin-few}
use Rattle.cm_desk.proofs.desk.Desk.begin.Given.{Over}
use Rattle.cm_desk.proofs.desk.Desk.begin.Goals as goal

-- the begin is a step, and has one entry
entry : (g : Over) (c : goal.After-push_reserved g)
    → Recorded c.self.inside.at_boot c.self.inside.works c.begin.new.self c.self.inside.history.items
    c.push_reserved.new.self.items
    c.self.inside.works.sessions (Begin c.self.inside.works.ended) (begin_reply c.self.inside.works)
    (vec_capacity c.push_reserved.new.self) (vec_capacity c.self.inside.boxes)
entry g c =
    let a = c.self.inside in
    let who = a.works.sessions in
    let call = Begin a.works.ended in
    let begun = c.in_ok-flight.ensures.begun.begun in
    let reply = begin_reply a.works in
    let grown : c.push_reserved.new.self.items ≡ with_entry a.history.items who call reply =
    rw (
      c.push_reserved.ensures.items,
      c.make_room.ensures.history.0,
      c.sessions-who.ensures,
      c.begin-2.ensures,
      c.ended-cycle.ensures,
      c.in_ok-flight.ensures.begun.told,
    ) refl in
    let stepped : step a.works who call ≡ Some (c.begin.new.self, reply) =
    rw begun (begin_step a.works a.works.ended (rw (← c.self.view_is, c.self.invariant.0.ends) at c.requires.can)) in
    let room : length a.history.items + 1 + owed c.begin.new.self ≤ vec_capacity c.push_reserved.new.self =
    omega (arith, c.push_reserved.ensures.capacity, c.in_ok-make_room.ensures.room c.begin.new.self) in
    recorded _ _ _ _ _ _ _ _ _ _ _ _ c.self.invariant.0 stepped grown
    (few_after c.begin.new.self a.history.items _ who call reply c.in_ok-make_room.ensures.few grown)
    (room_after c.begin.new.self a.history.items _ who call reply _ room grown)
    (rw (begun, begin-few a.works) c.self.invariant.0.places)

pub begin-requires : goal.begin-requires
begin-requires g c = record {
  can = rw (← c.self.view_is, c.self.invariant.0.ends) at c.requires.can;
  steady = c.self.invariant.0.steady;
  numbered = c.self.invariant.0.numbered;
}

pub invariant_of-self-2 : goal.invariant_of-self-2
invariant_of-self-2 g c = ((entry g c).keeps, c.self.invariant.1)

pub returns-clause-made : goal.returns-clause-made
returns-clause-made g c =
    let a = c.self.inside in
    let before = seen a.at_boot a.works a.history.items in
    let after = seen a.at_boot c.begin.new.self c.push_reserved.new.self.items in
    let grown : Grows before after before.opening.sessions (Begin (now_of before).ended) (begin_reply (now_of before)) =
    subst (λ (t : State). Grows before after a.works.sessions (Begin t.ended) (begin_reply t))
    (sym c.self.invariant.0.ends) (entry g c).grows in
    subst (λ (h : History). Grows h after h.opening.sessions (Begin (now_of h).ended) (begin_reply (now_of h)))
    c.self.view_is grown

-- the flight is that of the cycle that began
pub returns-clause-flight : goal.returns-clause-flight
returns-clause-flight g c =
    let a = c.self.inside in
    let before = seen a.at_boot a.works a.history.items in
    let grows = (entry g c).grows in
    is_out _ c.begin.new.self c.in_ok-flight.flight
    (begun_begins before _ a.works.sessions a.works.ended (begin_reply a.works) c.self.invariant.0.legal grows
    ∙ ap Some (entry g c).keeps.ends)
    c.in_ok-flight.ensures.begun.aloft

pub returns-clause-kept : goal.returns-clause-kept
returns-clause-kept g c = rw (entry g c).keeps.ends (entry g c).keeps.few
