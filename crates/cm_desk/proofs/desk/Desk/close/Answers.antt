use Rattle.std.proofs.Common.{◌≡◌, ◌+◌, ◌≤◌, length, true, Some, vec_capacity, refl, arith}
use Rattle.cm_document.specs.declared.call.Call.TheVariants.{Close}
use Rattle.cm_model.specs.Boundary.{close_reply}
use Rattle.cm_model.specs.Machine.{can_close, step}
use Rattle.cm_model.specs.Scheduled.{with_entry}
use Rattle.cm_desk.specs.Desk.{owed}
use Rattle.cm_desk.proofs.RecordLemmas.{Recorded, recorded, few_owed, room_owed, owed-close, open_where, close_step}
use Rattle.cm_desk.proofs.desk.Desk.close.Given.{Over}
use Rattle.cm_desk.proofs.desk.Desk.close.Goals as goal

-- the close is a step, and has one entry, which was owed
entry : (g : Over) (c : goal.After-push_reserved g)
    → Recorded c.self.inside.at_boot c.self.inside.works c.close-decisions.new.self c.self.inside.history.items
    c.push_reserved.new.self.items
    c.self.inside.works.sessions Close (close_reply c.self.inside.works) (vec_capacity c.push_reserved.new.self)
    (vec_capacity c.self.inside.boxes)
entry g c =
    let a = c.self.inside in
    let s = a.works in
    let who = s.sessions in
    let can : can_close s ≡ true = rw (← c.self.view_is, c.self.invariant.0.ends) at c.requires.can in
    let reply = close_reply s in
    let grown : c.push_reserved.new.self.items ≡ with_entry a.history.items who Close reply =
    rw (c.push_reserved.ensures.items, c.sessions-who.ensures, c.close.ensures, c.close-decisions.ensures.told) refl in
    let stepped : step s who Close ≡ Some (c.close-decisions.new.self, reply) =
    rw c.close-decisions.ensures.closed (close_step s can) in
    let room : length a.history.items + owed s ≤ vec_capacity c.push_reserved.new.self =
    omega (arith, c.push_reserved.ensures.capacity, c.self.invariant.0.room) in
    let less : owed c.close-decisions.new.self + 1 ≡ owed s =
    rw c.close-decisions.ensures.closed (owed-close s (open_where s can)) in
    recorded _ _ _ _ _ _ _ _ _ _ _ _ c.self.invariant.0 stepped grown
    (few_owed s c.close-decisions.new.self a.history.items _ who Close reply c.self.invariant.0.few less grown)
    (room_owed s c.close-decisions.new.self a.history.items _ who Close reply _ room less grown)
    (rw c.close-decisions.ensures.closed c.self.invariant.0.places)

pub invariant_of-self : goal.invariant_of-self
invariant_of-self g c = ((entry g c).keeps, c.self.invariant.1)

pub returns : goal.returns
returns g c = record { made = rw (← c.self.view_is, c.self.invariant.0.ends) (entry g c).grows }
