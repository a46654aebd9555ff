use Rattle.std.proofs.Common.{sym, ap, subst, ◌∙◌}
use Rattle.std.specs.Prelude.{is_some}
use Rattle.rt_flight.specs.Flights.{FlightFacts, MayBeComputed}
use Rattle.rt_flight.specs.Progress.{Progress}
use Rattle.rt_flight.proofs.FlightLemmas.{is_shown, shown_fresh}
use Rattle.rt_flight.proofs.flight.Flight.started.Goals as goal

pub returns-clause-started : goal.returns-clause-started
returns-clause-started g c =
    let a = c.self.inside in
    let p : Progress =
    record {
      depths = a.stage.depths;
      scattered = a.stage.scattered;
      gathered = a.stage.gathered;
      turned =
          a.stage.turned;
      waiting = a.stage.waiting;
      begun = a.stage.begun.value.items;
      read = a.stage.read.value;
      left = a.stage.left.value.items;
    } in
    sym (is_shown a.stage.started p) ∙ ap (λ (f : FlightFacts). is_some f.progress) c.self.view_is

-- without a start there is no record
pub returns-clause-fresh : goal.returns-clause-fresh
returns-clause-fresh g c = λ fresh.
    let a = c.self.inside in
    let p : Progress =
    record {
      depths = a.stage.depths;
      scattered = a.stage.scattered;
      gathered = a.stage.gathered;
      turned =
          a.stage.turned;
      waiting = a.stage.waiting;
      begun = a.stage.begun.value.items;
      read = a.stage.read.value;
      left = a.stage.left.value.items;
    } in
    subst MayBeComputed c.self.view_is (shown_fresh a.stage.started p fresh, (c.self.invariant.fresh fresh).not_yet)
