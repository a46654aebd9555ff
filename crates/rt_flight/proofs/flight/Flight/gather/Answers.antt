use Rattle.std.proofs.Common.{◌≡◌, ◌++◌, ◌-◌, ◌<◌, ◌≤◌, ℕ, true, List, map}
use Rattle.std.proofs.Common.{take, drop, length, sym, ap, subst, ◌∙◌, arith}
use Rattle.std.specs.Prelude.{is_some}
use Rattle.std.specs.List.{AllByRecursion}
use Rattle.std.proofs.lemmas.List.{length-map, take_rest}
use Rattle.cm_slots.specs.Updates.{Aloft, IsTimely}
use Rattle.rt_flight.specs.Calls.Depths.{StartsElsewhere}
use Rattle.rt_flight.specs.Calls.Parts.{CanGather}
use Rattle.rt_flight.specs.Cells.{CellFacts, cell_read, CanFly}
use Rattle.rt_flight.specs.Flights.{FlightFacts, facts_with}
use Rattle.rt_flight.specs.Progress.{Progress, round_in, shown}
use Rattle.rt_flight.specs.UnderWay.{IsTurning}
use Rattle.rt_flight.specs.declared.context.CycleContext.{CycleContext}
use Rattle.rt_flight.proofs.FlightLemmas.{before_depth, flight_on, gathered_seen}
use Rattle.rt_flight.proofs.FlightLemmas.{gathered_with, has_gathered, items_back, shown_is}
use Rattle.rt_flight.proofs.WayLemmas.{gathered, gathers_can, gathers_deeper, gathers_timely, room_now, round_now}
use Rattle.rt_flight.proofs.flight.Flight.gather.Goals as goal

pub gather_these-requires-clause-room : goal.gather_these-requires-clause-room
gather_these-requires-clause-room g c =
    let a = c.self.inside in
    let p : Progress =
    record {
      depths = a.stage.depths;
      scattered = a.stage.scattered;
      gathered = a.stage.gathered;
      turned =
          a.stage.turned;
      waiting = a.stage.waiting;
      begun = a.stage.begun.value.items;
      read = a.stage.read.value;
      left = a.stage.left.value.items;
    } in
    let may : CanGather c.args.depth (facts_with a.number a.cells.items a.context.value (shown a.stage.started p)) =
    subst (CanGather c.args.depth) (sym c.self.view_is) c.requires in
    let at = before_depth a.number a.cells.items a.context.value a.stage.started p c.args.depth may in
    let turning = c.self.invariant.turning at.0 may.0 in
    subst (λ (x : CycleContext). is_some x.room ≡ true) (sym c.deref-2.ensures)
    (room_now a.number a.cells.items a.context.value p turning)

pub gather_these-requires-clause-timely : goal.gather_these-requires-clause-timely
gather_these-requires-clause-timely g c =
    let a = c.self.inside in
    let p : Progress =
    record {
      depths = a.stage.depths;
      scattered = a.stage.scattered;
      gathered = a.stage.gathered;
      turned =
          a.stage.turned;
      waiting = a.stage.waiting;
      begun = a.stage.begun.value.items;
      read = a.stage.read.value;
      left = a.stage.left.value.items;
    } in
    let may : CanGather c.args.depth (facts_with a.number a.cells.items a.context.value (shown a.stage.started p)) =
    subst (CanGather c.args.depth) (sym c.self.view_is) c.requires in
    let at = before_depth a.number a.cells.items a.context.value a.stage.started p c.args.depth may in
    let turning = c.self.invariant.turning at.0 may.0 in
    subst (λ (x : CycleContext). IsTimely (round_in a.number x)) (sym c.deref-2.ensures)
    (gathers_timely a.number a.cells.items a.context.value p turning)

-- each can be updated
pub gather_these-requires-clause-can : goal.gather_these-requires-clause-can
gather_these-requires-clause-can g c =
    let a = c.self.inside in
    let p : Progress =
    record {
      depths = a.stage.depths;
      scattered = a.stage.scattered;
      gathered = a.stage.gathered;
      turned =
          a.stage.turned;
      waiting = a.stage.waiting;
      begun = a.stage.begun.value.items;
      read = a.stage.read.value;
      left = a.stage.left.value.items;
    } in
    let may : CanGather c.args.depth (facts_with a.number a.cells.items a.context.value (shown a.stage.started p)) =
    subst (CanGather c.args.depth) (sym c.self.view_is) c.requires in
    let at = before_depth a.number a.cells.items a.context.value a.stage.started p c.args.depth may in
    let turning = c.self.invariant.turning at.0 may.0 in
    let count = c.count_at-count.result in
    let layer : c.slice_mut.result.now ≡ take count (drop p.turned a.cells.items) =
    c.slice_mut.ensures.value ∙ ap (λ n. take n (drop p.turned a.cells.items)) (omega arith) in
    subst (λ (x : CycleContext). AllByRecursion
    (CanFly x.robot.places x.robot.relations x.robot.period_us (length x.robot.hardware.loans)) c.slice_mut.result.now)
    (sym c.deref-2.ensures)
    (subst (λ (cs : List CellFacts). AllByRecursion
    (CanFly a.context.value.robot.places a.context.value.robot.relations a.context.value.robot.period_us
    (length a.context.value.robot.hardware.loans)) cs)
    (sym layer) (gathers_can a.number a.cells.items a.context.value p turning at.1.0 count))

-- the cells of the depth wait,
pub invariant_of-self : goal.invariant_of-self
invariant_of-self g c =
    let a = c.self.inside in
    let p : Progress =
    record {
      depths = a.stage.depths;
      scattered = a.stage.scattered;
      gathered = a.stage.gathered;
      turned =
          a.stage.turned;
      waiting = a.stage.waiting;
      begun = a.stage.begun.value.items;
      read = a.stage.read.value;
      left = a.stage.left.value.items;
    } in
    let k = a.context.value in
    let cells = a.cells.items in
    let may : CanGather c.args.depth (facts_with a.number cells k (shown a.stage.started p)) =
    subst (CanGather c.args.depth) (sym c.self.view_is) c.requires in
    let at = before_depth a.number cells k a.stage.started p c.args.depth may in
    let turning : IsTurning a.number cells k p = c.self.invariant.turning at.0 may.0 in
    let count = c.count_at-count.result in
    let back = c.gather_these.new.cells in
    let layer : c.slice_mut.result.now ≡ take count (drop p.turned cells) =
    c.slice_mut.ensures.value ∙ ap (λ n. take n (drop p.turned cells)) (omega arith) in
    let read : back
    ≡ map (cell_read (round_in a.number p.read) k.robot.hardware.loans) (take count (drop p.turned cells)) =
    c.gather_these.ensures
    ∙ ap (λ (x : CycleContext). map (cell_read (round_in a.number x) x.robot.hardware.loans) c.slice_mut.result.now)
    c.deref-2.ensures
    ∙ ap (map (cell_read (round_in a.number k) k.robot.hardware.loans)) layer
    ∙ ap (λ (x : Aloft). map (cell_read x k.robot.hardware.loans) (take count (drop p.turned cells)))
    (round_now a.number cells k p turning) in
    let as_many : length back ≡ length (take count (drop p.turned cells)) =
    ap (λ (cs : List CellFacts). length cs) read
    ∙ length-map (take count (drop p.turned cells)) (cell_read (round_in a.number p.read) k.robot.hardware.loans) in
    let long : length cells ≡ a.cells.len = omega (arith, a.cells.ok.0) in
    let whole = items_back a.cells.len p.turned count cells back long as_many
    ∙ ap (λ (cs : List CellFacts). take p.turned cells ++ (cs ++ drop count (drop p.turned cells))) read in
    let rest : take (length c.deref.result.now - p.turned) (drop p.turned c.deref.result.now) ≡ drop p.turned cells =
    take_rest c.deref.result.now p.turned ∙ ap (drop p.turned) c.deref.ensures.value in
    let few = subst (λ (cs : List CellFacts). count ≤ length cs) rest c.count_at-count.ensures.within in
    let one = subst (λ (cs : List CellFacts). AllByRecursion (λ d. d.depth ≡ c.args.depth) (take count cs)) rest
    c.count_at-count.ensures.at in
    let next = subst (λ (cs : List CellFacts). StartsElsewhere c.args.depth (drop count cs)) rest
    c.count_at-count.ensures.next in
    let at_depth =
    subst (λ (n : ℕ). AllByRecursion (λ d. d.depth ≡ n) (take count (drop p.turned cells))) (sym at.1.1.0) one in
    let deeper =
    gathers_deeper a.number cells k p turning at.1.0 count
    (subst (λ (n : ℕ). StartsElsewhere n (drop count (drop p.turned cells))) (sym at.1.1.0) next) in
    let below = subst (λ (n : ℕ). n < p.depths) (sym at.1.1.0) at.1.1.1 in
    flight_on a.number _ k a.stage.started _ at.0 may.0
    (gathered_with a.number _ k p count _ (ap (λ v. v.items) c.of.ensures)
    (gathered a.number cells k p turning at.1.0 count _ few below at_depth deeper whole))

-- and have read
pub returns : goal.returns
returns g c = λ q is.
    let a = c.self.inside in
    let p : Progress =
    record {
      depths = a.stage.depths;
      scattered = a.stage.scattered;
      gathered = a.stage.gathered;
      turned =
          a.stage.turned;
      waiting = a.stage.waiting;
      begun = a.stage.begun.value.items;
      read = a.stage.read.value;
      left = a.stage.left.value.items;
    } in
    let k = a.context.value in
    let cells = a.cells.items in
    let may : CanGather c.args.depth (facts_with a.number cells k (shown a.stage.started p)) =
    subst (CanGather c.args.depth) (sym c.self.view_is) c.requires in
    let at = before_depth a.number cells k a.stage.started p c.args.depth may in
    let turning : IsTurning a.number cells k p = c.self.invariant.turning at.0 may.0 in
    let count = c.count_at-count.result in
    let back = c.gather_these.new.cells in
    let layer : c.slice_mut.result.now ≡ take count (drop p.turned cells) =
    c.slice_mut.ensures.value ∙ ap (λ n. take n (drop p.turned cells)) (omega arith) in
    let read : back
    ≡ map (cell_read (round_in a.number p.read) k.robot.hardware.loans) (take count (drop p.turned cells)) =
    c.gather_these.ensures
    ∙ ap (λ (x : CycleContext). map (cell_read (round_in a.number x) x.robot.hardware.loans) c.slice_mut.result.now)
    c.deref-2.ensures
    ∙ ap (map (cell_read (round_in a.number k) k.robot.hardware.loans)) layer
    ∙ ap (λ (x : Aloft). map (cell_read x k.robot.hardware.loans) (take count (drop p.turned cells)))
    (round_now a.number cells k p turning) in
    let as_many : length back ≡ length (take count (drop p.turned cells)) =
    ap (λ (cs : List CellFacts). length cs) read
    ∙ length-map (take count (drop p.turned cells)) (cell_read (round_in a.number p.read) k.robot.hardware.loans) in
    let long : length cells ≡ a.cells.len = omega (arith, a.cells.ok.0) in
    let whole = items_back a.cells.len p.turned count cells back long as_many
    ∙ ap (λ (cs : List CellFacts). take p.turned cells ++ (cs ++ drop count (drop p.turned cells))) read in
    let rest : take (length c.deref.result.now - p.turned) (drop p.turned c.deref.result.now) ≡ drop p.turned cells =
    take_rest c.deref.result.now p.turned ∙ ap (drop p.turned) c.deref.ensures.value in
    let one = subst (λ (cs : List CellFacts). AllByRecursion (λ d. d.depth ≡ c.args.depth) (take count cs)) rest
    c.count_at-count.ensures.at in
    let next = subst (λ (cs : List CellFacts). StartsElsewhere c.args.depth (drop count cs)) rest
    c.count_at-count.ensures.next in
    let deeper =
    gathers_deeper a.number cells k p turning at.1.0 count
    (subst (λ (n : ℕ). StartsElsewhere n (drop count (drop p.turned cells))) (sym at.1.1.0) next) in
    let same = (shown_is a.stage.started p q (ap (λ (f : FlightFacts). f.progress) c.self.view_is ∙ is)).1 in
    gathered_seen c.args.depth p q (facts_with a.number cells k (shown a.stage.started p)) _ _ same c.self.view_is
    (has_gathered c.args.depth a.number cells _ k a.stage.started p count _ at.0 (ap (λ v. v.items) c.of.ensures) one
    (subst (λ (n : ℕ). AllByRecursion (λ d. n < d.depth) (drop count (drop p.turned cells))) at.1.1.0 deeper) whole)
