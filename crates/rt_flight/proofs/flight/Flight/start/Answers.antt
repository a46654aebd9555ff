use Rattle.std.proofs.Common.{◌≡◌, List, length, None, sym, ap, subst, ◌∙◌, arith}
use Rattle.std.proofs.lemmas.List.{with_items_is}
use Rattle.std.specs.Prelude.{vec_len}
use Rattle.rt_flight.specs.Cells.{CellFacts}
use Rattle.rt_flight.specs.Flights.{facts_with, IsAloft, IsAloftOver}
use Rattle.rt_flight.specs.Progress.{Progress, shown}
use Rattle.rt_flight.specs.UnderWay.{IsFresh}
use Rattle.rt_flight.specs.declared.context.CycleContext.{CycleContext}
use Rattle.rt_flight.proofs.FlightLemmas.{kept_at_first, not_shown, way_at_first}
use Rattle.rt_flight.proofs.flight.Flight.start.Goals as goal

-- it was not started
pub begin_turns-depths-requires : goal.begin_turns-depths-requires
begin_turns-depths-requires g c =
    let a = c.self.inside in
    let p : Progress =
    record {
      depths = a.stage.depths;
      scattered = a.stage.scattered;
      gathered = a.stage.gathered;
      turned =
          a.stage.turned;
      waiting = a.stage.waiting;
      begun = a.stage.begun.value.items;
      read = a.stage.read.value;
      left = a.stage.left.value.items;
    } in
    let k = c.deref_mut-context.result.now in
    let fresh = c.self.invariant.fresh (not_shown a.stage.started p (rw (← c.self.view_is) at c.requires)) in
    subst (λ (cs : List CellFacts). IsFresh a.number cs k) (sym c.as_mut_slice.ensures.value)
    (subst (IsFresh a.number a.cells.items) (sym c.deref_mut-context.ensures.value) fresh)

-- its turns begin,
pub invariant_of-self : goal.invariant_of-self
invariant_of-self g c =
    let a = c.self.inside in
    let p : Progress =
    record {
      depths = a.stage.depths;
      scattered = a.stage.scattered;
      gathered = a.stage.gathered;
      turned =
          a.stage.turned;
      waiting = a.stage.waiting;
      begun = a.stage.begun.value.items;
      read = a.stage.read.value;
      left = a.stage.left.value.items;
    } in
    let k = c.deref_mut-context.result.now in
    let next = c.begin_turns-depths.new.context in
    let cells = c.begin_turns-depths.new.cells in
    let fresh = c.self.invariant.fresh (not_shown a.stage.started p (rw (← c.self.view_is) at c.requires)) in
    let none : k.record ≡ None =
    ap (λ (x : CycleContext). x.record) c.deref_mut-context.ensures.value ∙ fresh.not_yet in
    let long : length cells ≡ a.cells.len =
    omega (arith, c.begin_turns-depths.auto.cells, c.as_mut_slice.ensures.len) in
    let items = with_items_is a.cells cells long in
    let erred : vec_len next.erred ≡ length next.erred.items = omega (arith, next.erred.ok.0) in
    rw items
    (kept_at_first a.number c.as_mut_slice.result.now cells k next c.begin_turns-depths.result
    c.begin_turns-depths.ensures.begins none c.of.result.value.items c.of-3.result.value.items
    c.of-2.result.value (ap (λ v. v.items) c.of.ensures ∙ items) (ap (λ v. v.items) c.of-3.ensures ∙ items)
    (c.of-2.ensures ∙ c.deref.ensures) erred)

-- in the cycle of each state in which it was aloft
pub returns-clause-under_way : goal.returns-clause-under_way
returns-clause-under_way g c = λ s aloft.
    let a = c.self.inside in
    let p : Progress =
    record {
      depths = a.stage.depths;
      scattered = a.stage.scattered;
      gathered = a.stage.gathered;
      turned =
          a.stage.turned;
      waiting = a.stage.waiting;
      begun = a.stage.begun.value.items;
      read = a.stage.read.value;
      left = a.stage.left.value.items;
    } in
    let k = c.deref_mut-context.result.now in
    let next = c.begin_turns-depths.new.context in
    let cells = c.begin_turns-depths.new.cells in
    let fresh = c.self.invariant.fresh (not_shown a.stage.started p (rw (← c.self.view_is) at c.requires)) in
    let none : k.record ≡ None =
    ap (λ (x : CycleContext). x.record) c.deref_mut-context.ensures.value ∙ fresh.not_yet in
    let long : length cells ≡ a.cells.len =
    omega (arith, c.begin_turns-depths.auto.cells, c.as_mut_slice.ensures.len) in
    let items = with_items_is a.cells cells long in
    let is : IsAloft s (facts_with a.number a.cells.items a.context.value (shown a.stage.started p)) =
    subst (IsAloft s) (sym c.self.view_is) aloft in
    let over : IsAloftOver s a.number c.as_mut_slice.result.now k.robot =
    subst (λ (cs : List CellFacts). IsAloftOver s a.number cs k.robot) (sym c.as_mut_slice.ensures.value)
    (subst (λ (x : CycleContext). IsAloftOver s a.number a.cells.items x.robot) (sym c.deref_mut-context.ensures.value)
    is.over) in
    rw items
    (way_at_first a.number c.as_mut_slice.result.now cells k next c.begin_turns-depths.result
    c.begin_turns-depths.ensures.begins none c.of.result.value.items c.of-3.result.value.items
    c.of-2.result.value (ap (λ v. v.items) c.of.ensures ∙ items) (ap (λ v. v.items) c.of-3.ensures ∙ items)
    (c.of-2.ensures ∙ c.deref.ensures) s (c.begin_turns-depths.ensures.under_way s over))
