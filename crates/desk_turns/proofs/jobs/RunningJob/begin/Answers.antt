use Rattle.std.proofs.Common.{rules, refl, sym, ◌∙◌}
use Rattle.cm_document.specs.declared.call.Call.TheVariants.{Begin}
use Rattle.cm_desk.specs.Desk.{now_of}
use Rattle.cm_desk.proofs.BegunLemmas.{begun_aloft}
use Rattle.desk_turns.proofs.NumberLemmas.{sessions_over}
use Rattle.desk_turns.proofs.JobLemmas.{begin_number, begin_waits, loop_made, flight_out}
use Rattle.desk_turns.proofs.jobs.RunningJob.begin.Goals as goal

-- the cycle that begins has the number that was asked for,
pub returns-in_ok-flight-clause-moved : goal.returns-in_ok-flight-clause-moved
returns-in_ok-flight-clause-moved g c =
    let can = rw (← c.self.view_is) at (sym c.can_begin.ensures ∙ c.if-can_begin.true) in
    let number = begin_number (now_of c.self.inside.desk) c.args.number can in
    rw (← c.self.view_is) (loop_made (Begin c.args.number) _ _ _ (rw number at c.in_ok-flight.ensures.made) refl)

-- and its flight is at hand
pub invariant_of-self-then-can_begin : goal.invariant_of-self-then-can_begin
invariant_of-self-then-can_begin g c = (
  sessions_over c.self.inside.desk _ _ (search rules) c.self.invariant.0,
  flight_out c.begin.new.self c.replace.new.self c.in_ok-flight.flight c.replace.ensures.after
      c.in_ok-flight.ensures.flight
      (begun_aloft c.self.inside.desk c.begin.new.self _ _ _ c.in_ok-flight.ensures.made),
)

-- it cannot begin
pub returns-else-can_begin-clause-moved : goal.returns-else-can_begin-clause-moved
returns-else-can_begin-clause-moved g c =
    begin_waits c.args.number c.args.self.now (sym c.can_begin.ensures ∙ c.if-can_begin.false)
