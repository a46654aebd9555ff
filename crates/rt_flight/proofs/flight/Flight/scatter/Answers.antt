use Rattle.std.proofs.Common.{◌≡◌, ◌+◌, ℕ, List, map, take, drop, length, sym, ap, subst, ◌∙◌, arith}
use Rattle.std.specs.Prelude.{vec_len, vec_capacity, IfSome, IsSomeAnd}
use Rattle.std.proofs.lemmas.List.{length-map}
use Rattle.rt_flight.specs.Calls.Cells.{CanPutAll}
use Rattle.rt_flight.specs.Calls.Parts.{waiting_of, with_waiting, HaveMadeSteps, Waits}
use Rattle.rt_flight.specs.Calls.Turns.{Scatters}
use Rattle.rt_flight.specs.Cells.{CellFacts, cell_put}
use Rattle.rt_flight.specs.Flights.{FlightFacts, facts_with}
use Rattle.rt_flight.specs.Progress.{Progress, shown}
use Rattle.rt_flight.specs.UnderWay.{IsTurning}
use Rattle.rt_flight.specs.declared.context.CycleContext.{CycleContext}
use Rattle.rt_flight.proofs.FlightLemmas.{depth_of, flight_on, has_scattered, items_back, scattered_seen}
use Rattle.rt_flight.proofs.FlightLemmas.{scattered_with, shown_if, shown_is, started_of, waits_of}
use Rattle.rt_flight.proofs.WayLemmas.{can_put, scattered}
use Rattle.rt_flight.proofs.flight.Flight.scatter.Goals as goal

-- what each that waits came to can be put
pub scatter_these-requires : goal.scatter_these-requires
scatter_these-requires g c =
    let a = c.self.inside in
    let p : Progress =
    record {
      depths = a.stage.depths;
      scattered = a.stage.scattered;
      gathered = a.stage.gathered;
      turned =
          a.stage.turned;
      waiting = a.stage.waiting;
      begun = a.stage.begun.value.items;
      read = a.stage.read.value;
      left = a.stage.left.value.items;
    } in
    let k = a.context.value in
    let cells = a.cells.items in
    let may : Waits c.args.depth (facts_with a.number cells k (shown a.stage.started p)) =
    subst (Waits c.args.depth) (sym c.self.view_is) c.requires.waits in
    let started = started_of a.number cells k a.stage.started p c.args.depth may in
    let turning : IsTurning a.number cells k p = c.self.invariant.turning started may.0 in
    let made : HaveMadeSteps p cells = shown_if a.stage.started p (λ x. HaveMadeSteps x cells) started
    (subst (λ (f : FlightFacts). IfSome f.progress (λ x. HaveMadeSteps x f.cells)) (sym c.self.view_is)
    c.requires.stepped) in
    let layer : c.slice_mut.result.now ≡ waiting_of p cells =
    c.slice_mut.ensures.value ∙ ap (λ n. take n (drop p.turned cells)) (omega arith) in
    subst (λ (x : CycleContext). IsSomeAnd x.room
    (λ r. CanPutAll x.robot.places (length x.robot.hardware.loans) c.slice_mut.result.now r.ran (vec_len x.erred)
    (vec_capacity x.erred)))
    (sym c.deref_mut-context.ensures.value)
    (subst (λ (cs : List CellFacts). IsSomeAnd k.room
    (λ r. CanPutAll k.robot.places (length k.robot.hardware.loans) cs r.ran (vec_len k.erred) (vec_capacity k.erred)))
    (sym layer)
    (can_put a.number cells k p turning made))

-- the next depth may be gathered,
pub invariant_of-self : goal.invariant_of-self
invariant_of-self g c =
    let a = c.self.inside in
    let p : Progress =
    record {
      depths = a.stage.depths;
      scattered = a.stage.scattered;
      gathered = a.stage.gathered;
      turned =
          a.stage.turned;
      waiting = a.stage.waiting;
      begun = a.stage.begun.value.items;
      read = a.stage.read.value;
      left = a.stage.left.value.items;
    } in
    let k = a.context.value in
    let cells = a.cells.items in
    let may : Waits c.args.depth (facts_with a.number cells k (shown a.stage.started p)) =
    subst (Waits c.args.depth) (sym c.self.view_is) c.requires.waits in
    let started = started_of a.number cells k a.stage.started p c.args.depth may in
    let turning : IsTurning a.number cells k p = c.self.invariant.turning started may.0 in
    let made : HaveMadeSteps p cells = shown_if a.stage.started p (λ x. HaveMadeSteps x cells) started
    (subst (λ (f : FlightFacts). IfSome f.progress (λ x. HaveMadeSteps x f.cells)) (sym c.self.view_is)
    c.requires.stepped) in
    let layer : c.slice_mut.result.now ≡ waiting_of p cells =
    c.slice_mut.ensures.value ∙ ap (λ n. take n (drop p.turned cells)) (omega arith) in
    let back = c.scatter_these.new.cells in
    let next = c.scatter_these.new.context in
    let puts_here : Scatters (waiting_of p cells) back k next =
    subst (λ (cs : List CellFacts). Scatters cs back k next) layer
    (subst (λ (x : CycleContext). Scatters c.slice_mut.result.now back x next) c.deref_mut-context.ensures.value
    c.scatter_these.ensures) in
    let puts : Scatters (waiting_of p cells) (map cell_put (waiting_of p cells)) k next =
    subst (λ (cs : List CellFacts). Scatters (waiting_of p cells) cs k next) puts_here.put puts_here in
    let as_many : length back ≡ length (waiting_of p cells) =
    ap (λ (cs : List CellFacts). length cs) puts_here.put ∙ length-map (waiting_of p cells) cell_put in
    let long : length cells ≡ a.cells.len = omega (arith, a.cells.ok.0) in
    let whole = items_back a.cells.len p.turned p.waiting cells back long as_many
    ∙ ap (with_waiting p cells) puts_here.put in
    let depth = depth_of a.number cells k a.stage.started p c.args.depth may in
    let none = ap (λ (x : CycleContext). x.record) puts.context ∙ may.0 in
    flight_on a.number _ next a.stage.started _ started none
    (scattered_with a.number _ next p c.args.depth _ depth (ap (λ v. v.items) c.of.ensures)
    (scattered a.number cells k p turning made next puts (waits_of a.number cells k a.stage.started p c.args.depth may)
    _ whole))

-- and the claims hold what they came to
pub returns : goal.returns
returns g c = λ q is.
    let a = c.self.inside in
    let p : Progress =
    record {
      depths = a.stage.depths;
      scattered = a.stage.scattered;
      gathered = a.stage.gathered;
      turned =
          a.stage.turned;
      waiting = a.stage.waiting;
      begun = a.stage.begun.value.items;
      read = a.stage.read.value;
      left = a.stage.left.value.items;
    } in
    let k = a.context.value in
    let cells = a.cells.items in
    let may : Waits c.args.depth (facts_with a.number cells k (shown a.stage.started p)) =
    subst (Waits c.args.depth) (sym c.self.view_is) c.requires.waits in
    let started = started_of a.number cells k a.stage.started p c.args.depth may in
    let layer : c.slice_mut.result.now ≡ waiting_of p cells =
    c.slice_mut.ensures.value ∙ ap (λ n. take n (drop p.turned cells)) (omega arith) in
    let back = c.scatter_these.new.cells in
    let next = c.scatter_these.new.context in
    let puts_here : Scatters (waiting_of p cells) back k next =
    subst (λ (cs : List CellFacts). Scatters cs back k next) layer
    (subst (λ (x : CycleContext). Scatters c.slice_mut.result.now back x next) c.deref_mut-context.ensures.value
    c.scatter_these.ensures) in
    let as_many : length back ≡ length (waiting_of p cells) =
    ap (λ (cs : List CellFacts). length cs) puts_here.put ∙ length-map (waiting_of p cells) cell_put in
    let long : length cells ≡ a.cells.len = omega (arith, a.cells.ok.0) in
    let whole = items_back a.cells.len p.turned p.waiting cells back long as_many
    ∙ ap (with_waiting p cells) puts_here.put in
    let depth = depth_of a.number cells k a.stage.started p c.args.depth may in
    let same = (shown_is a.stage.started p q (ap (λ (f : FlightFacts). f.progress) c.self.view_is ∙ is)).1 in
    scattered_seen p q (facts_with a.number cells k (shown a.stage.started p)) _ _ same c.self.view_is
    (has_scattered a.number cells _ back k next a.stage.started p (c.args.depth + 1) _ started
    (ap (λ v. v.items) c.of.ensures) (ap (λ (n : ℕ). n + 1) (sym depth)) puts_here whole)
