use Rattle.std.proofs.Common.{rules, refl, sym, ◌∙◌}
use Rattle.std.proofs.lemmas.Bool.{and_parts}
use Rattle.cm_document.specs.declared.call.Call.TheVariants.{End}
use Rattle.cm_desk.specs.Desk.{now_of}
use Rattle.cm_desk.proofs.BegunLemmas.{landed_down}
use Rattle.desk_turns.proofs.NumberLemmas.{sessions_over}
use Rattle.desk_turns.proofs.JobLemmas.{end_number, end_waits, loop_made, flight_there, flight_lands, flight_gone}
use Rattle.desk_turns.proofs.jobs.RunningJob.end.Goals as goal

-- the cycle that ends has the number that was asked for
pub returns-in-Some : goal.returns-in-Some
returns-in-Some g c =
    let can = rw (← c.self.view_is) at (sym c.can_end.ensures ∙ c.if-can_end.true) in
    let number = end_number (now_of c.self.inside.desk) c.args.number can in
    rw (← c.self.view_is) (loop_made (End c.args.number) _ _ _ (rw number at c.land.ensures.made) refl)

-- its flight is here, and may land once it is computed
pub unreachable-requires : goal.unreachable-requires
unreachable-requires g c =
    let can = rw (← c.self.view_is) at (sym c.can_end.ensures ∙ c.if-can_end.true) in
    flight_there c.self.inside.desk c.self.inside.flight c.self.invariant.1 (sym c.take.ensures.value ∙ c.in_default.is)
    (and_parts (now_of c.self.inside.desk).aloft _ can).0

pub land-requires : goal.land-requires
land-requires g c =
    record {
      flight =
          flight_lands c.self.inside.desk c.self.inside.flight c.in-Some.flight c.compute_once.new.flight
          c.self.invariant.1 (sym c.take.ensures.value ∙ c.in-Some.is) c.compute_once.ensures;
    }

-- and then it is gone
pub invariant_of-self : goal.invariant_of-self
invariant_of-self g c = (
  sessions_over c.self.inside.desk _ _ (search rules) c.self.invariant.0,
  flight_gone c.land.new.self c.take.new.self c.take.ensures.after
      (landed_down c.self.inside.desk c.land.new.self _ _ _ c.land.ensures.made),
)

-- it cannot end
pub returns-else-can_end : goal.returns-else-can_end
returns-else-can_end g c = end_waits c.args.number c.args.self.now (sym c.can_end.ensures ∙ c.if-can_end.false)
