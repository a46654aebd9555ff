use Rattle.std.proofs.Common.{◌≡◌, ℕ, false, List, None, Option, refl, sym, ap, subst, ◌∙◌}
use Rattle.rt_flight.specs.Flights.{facts_with}
use Rattle.rt_flight.specs.Progress.{Progress, shown}
use Rattle.rt_flight.specs.UnderWay.{IsFlight}
use Rattle.rt_flight.specs.declared.context.CycleContext.{CycleContext}
use Rattle.rt_flight.proofs.FlightLemmas.{flight_at_first, shown_fresh}
use Rattle.rt_flight.proofs.flight.Flight.take_off.Goals as goal

-- it was not started,
pub invariant_of-result : goal.invariant_of-result
invariant_of-result g c =
    let number = c.args.payload.number in
    let cells = c.args.payload.cells.items in
    let k : CycleContext = record c.args.payload.context.value { has_failed = false; «record» = None } in
    let st = c.not_started-stage.result in
    let p : Progress =
    record {
      depths = st.depths;
      scattered = st.scattered;
      gathered = st.gathered;
      turned = st.turned;
      waiting =
          st.waiting;
      begun = st.begun.value.items;
      read = st.read.value;
      left = st.left.value.items;
    } in
    let without : c.deref_mut-2.result.now ≡ record c.args.payload.context.value { has_failed = false } =
    c.deref_mut-2.ensures.value
    ∙ ap (λ (x : CycleContext). record x { has_failed = false }) c.deref_mut.ensures.value in
    subst (λ (x : CycleContext). IsFlight number cells (record x { «record» = None }) st.started p) (sym without)
    (flight_at_first number cells k st.started p c.not_started-stage.ensures
    (record {
      equipped = c.requires.equipped;
      none_erred = c.requires.none_erred;
      not_yet = refl;
      ready =
          c.requires.ready;
    }))

-- and shows no progress
pub returns : goal.returns
returns g c =
    let number = c.args.payload.number in
    let cells = c.args.payload.cells.items in
    let k : CycleContext = record c.args.payload.context.value { has_failed = false; «record» = None } in
    let st = c.not_started-stage.result in
    let p : Progress =
    record {
      depths = st.depths;
      scattered = st.scattered;
      gathered = st.gathered;
      turned = st.turned;
      waiting =
          st.waiting;
      begun = st.begun.value.items;
      read = st.read.value;
      left = st.left.value.items;
    } in
    let without : c.deref_mut-2.result.now ≡ record c.args.payload.context.value { has_failed = false } =
    c.deref_mut-2.ensures.value
    ∙ ap (λ (x : CycleContext). record x { has_failed = false }) c.deref_mut.ensures.value in
    ap (λ (x : CycleContext). facts_with number cells (record x { «record» = None }) (shown st.started p)) without
    ∙ ap (λ (o : Option Progress). facts_with number cells k o) (shown_fresh st.started p c.not_started-stage.ensures)
    ∙ ap (λ (es : List ℕ). record (facts_with number cells k None) { erred = es }) c.requires.none_erred
