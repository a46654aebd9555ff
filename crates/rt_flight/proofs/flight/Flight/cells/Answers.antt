use Rattle.std.proofs.Common.{◌≡◌, true, take, drop, length, refl, sym, ap, subst, ◌∙◌, arith}
use Rattle.std.specs.Prelude.{IfSome}
use Rattle.std.specs.List.{AllByRecursion}
use Rattle.std.specs.Vec.{with_items_from}
use Rattle.rt_flight.specs.Calls.Parts.{waiting_of, Waits}
use Rattle.rt_flight.specs.Cells.{CanMakeStep}
use Rattle.rt_flight.specs.Flights.{FlightFacts, facts_with}
use Rattle.rt_flight.specs.Progress.{Progress, shown}
use Rattle.rt_flight.specs.UnderWay.{with_lent}
use Rattle.rt_flight.proofs.FlightLemmas.{flight_lent, if_shown, lent_facts, started_of, steps_of, waits_of}
use Rattle.rt_flight.proofs.flight.Flight.cells.Goals as goal

-- whatever is left there, as many cells there are
pub invariant_of-self-lent : goal.invariant_of-self-lent
invariant_of-self-lent g c = λ w.
    let a = c.self.inside in
    let p : Progress =
    record {
      depths = a.stage.depths;
      scattered = a.stage.scattered;
      gathered = a.stage.gathered;
      turned =
          a.stage.turned;
      waiting = a.stage.waiting;
      begun = a.stage.begun.value.items;
      read = a.stage.read.value;
      left = a.stage.left.value.items;
    } in
    let left = with_items_from a.cells a.stage.turned w in
    let may : Waits c.args.depth (facts_with a.number a.cells.items a.context.value (shown a.stage.started p)) =
    subst (Waits c.args.depth) (sym c.self.view_is) c.requires in
    flight_lent a.number a.cells.items left.items a.context.value a.stage.started p
    (started_of a.number a.cells.items a.context.value a.stage.started p c.args.depth may) may.0
    (waits_of a.number a.cells.items a.context.value a.stage.started p c.args.depth may)
    (omega (arith, left.ok.0, a.cells.ok.0)) c.self.invariant

-- and it stands in place of the cells that wait, which can make their steps
pub returns : goal.returns
returns g c =
    let a = c.self.inside in
    let p : Progress =
    record {
      depths = a.stage.depths;
      scattered = a.stage.scattered;
      gathered = a.stage.gathered;
      turned =
          a.stage.turned;
      waiting = a.stage.waiting;
      begun = a.stage.begun.value.items;
      read = a.stage.read.value;
      left = a.stage.left.value.items;
    } in
    let may : Waits c.args.depth (facts_with a.number a.cells.items a.context.value (shown a.stage.started p)) =
    subst (Waits c.args.depth) (sym c.self.view_is) c.requires in
    let started : a.stage.started ≡ true =
    started_of a.number a.cells.items a.context.value a.stage.started p c.args.depth may in
    let long : length a.cells.items ≡ a.cells.len = omega (arith, a.cells.ok.0) in (
      (
        refl,
        λ w. lent_facts a.number a.cells.len a.cells.items w a.context.value a.stage.started p started long
            ∙ ap (λ (f : FlightFacts). with_lent f w) c.self.view_is,
      ),
      record {
        value = subst (λ (f : FlightFacts). IfSome f.progress (λ x. c.slice_mut.result.now ≡ waiting_of x f.cells))
            c.self.view_is
            (if_shown a.stage.started p (λ x. c.slice_mut.result.now ≡ waiting_of x a.cells.items)
            (λ on. c.slice_mut.ensures.value ∙ ap (λ n. take n (drop a.stage.turned a.cells.items)) (omega arith)));
        steps = subst
            (λ (f : FlightFacts). IfSome f.progress
            (λ x. f.cells ≡ x.left → AllByRecursion CanMakeStep (waiting_of x f.cells))) c.self.view_is
            (if_shown a.stage.started p
            (λ x. a.cells.items ≡ x.left → AllByRecursion CanMakeStep (waiting_of x a.cells.items))
            (λ on same. steps_of a.number a.cells.items a.context.value a.stage.started p c.self.invariant on may.0
            same));
        writes_back = tt;
      },
    )
