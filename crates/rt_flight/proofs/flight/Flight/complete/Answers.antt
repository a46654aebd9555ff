use Rattle.std.proofs.Common.{List, sym, subst}
use Rattle.rt_flight.specs.Calls.Parts.{CanComplete}
use Rattle.rt_flight.specs.Calls.Turns.{HaveAllTurned}
use Rattle.rt_flight.specs.Cells.{CellFacts}
use Rattle.rt_flight.specs.Flights.{facts_with, IsComputed}
use Rattle.rt_flight.specs.Progress.{Progress, shown}
use Rattle.rt_flight.specs.UnderWay.{HasBegunOf, IsUnderWay}
use Rattle.rt_flight.specs.declared.context.CycleContext.{CycleContext}
use Rattle.rt_flight.proofs.FlightLemmas.{all_turned_of, begun_in}
use Rattle.rt_flight.proofs.flight.Flight.complete.Goals as goal

-- all depths gave out
pub end_turns-requires : goal.end_turns-requires
end_turns-requires g c =
    let a = c.self.inside in
    let p : Progress =
    record {
      depths = a.stage.depths;
      scattered = a.stage.scattered;
      gathered = a.stage.gathered;
      turned =
          a.stage.turned;
      waiting = a.stage.waiting;
      begun = a.stage.begun.value.items;
      read = a.stage.read.value;
      left = a.stage.left.value.items;
    } in
    let may : CanComplete (facts_with a.number a.cells.items a.context.value (shown a.stage.started p)) =
    subst CanComplete (sym c.self.view_is) c.requires in
    let all = all_turned_of a.number a.cells.items a.context.value a.stage.started p c.self.invariant may in (
      p.begun,
      (
        p.read,
        subst (λ (cs : List CellFacts). HaveAllTurned a.number p.begun cs p.read c.deref_mut-context.result.now)
            (sym c.as_slice.ensures.value)
            (subst (λ (x : CycleContext). HaveAllTurned a.number p.begun a.cells.items p.read x)
            (sym c.deref_mut-context.ensures.value) all),
      ),
    )

-- and the flight is computed of each state of which it was under way
pub returns-clause-cycle : goal.returns-clause-cycle
returns-clause-cycle g c = λ s way.
    let a = c.self.inside in
    let p : Progress =
    record {
      depths = a.stage.depths;
      scattered = a.stage.scattered;
      gathered = a.stage.gathered;
      turned =
          a.stage.turned;
      waiting = a.stage.waiting;
      begun = a.stage.begun.value.items;
      read = a.stage.read.value;
      left = a.stage.left.value.items;
    } in
    let may : CanComplete (facts_with a.number a.cells.items a.context.value (shown a.stage.started p)) =
    subst CanComplete (sym c.self.view_is) c.requires in
    let all = all_turned_of a.number a.cells.items a.context.value a.stage.started p c.self.invariant may in
    let on : IsUnderWay s (facts_with a.number a.cells.items a.context.value (shown a.stage.started p)) =
    subst (IsUnderWay s) (sym c.self.view_is) way in
    let of : HasBegunOf s a.number p.begun p.read =
    begun_in a.number a.cells.items a.context.value a.stage.started p s on in
    subst (λ (cs : List CellFacts). IsComputed s
    (facts_with a.number cs c.end_turns.new.context (shown a.stage.started p))) c.as_slice.ensures.value
    (c.end_turns.ensures.cycle p.begun p.read
    (subst (λ (cs : List CellFacts). HaveAllTurned a.number p.begun cs p.read c.deref_mut-context.result.now)
    (sym c.as_slice.ensures.value)
    (subst (λ (x : CycleContext). HaveAllTurned a.number p.begun a.cells.items p.read x)
    (sym c.deref_mut-context.ensures.value) all)) (shown a.stage.started p) s of)
