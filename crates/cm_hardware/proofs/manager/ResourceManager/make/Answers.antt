use Rattle.std.proofs.Common.{◌≡◌, ◌++◌, map, length, take, drop, refl, sym, ap, ap₂, ◌∙◌, arith}
use Rattle.std.proofs.lemmas.List.{length-map}
use Rattle.cm_document.specs.Places.{interfaces_of}
use Rattle.cm_document.specs.declared.description.Description.{Description}
use Rattle.loan_board.specs.Loans.{idle_of}
use Rattle.cm_hardware.specs.Starting.{mounted, all_places}
use Rattle.cm_hardware.specs.Wiring.{all_states}
use Rattle.cm_hardware.proofs.StartLemmas.{IsMade, places_are, places_fit, free_idle}
use Rattle.cm_hardware.proofs.StartLemmas.{whole, managed_is, start_is, whose_at}
use Rattle.cm_hardware.proofs.manager.ResourceManager.make.Goals as goal

-- there are as many places as interfaces, and nobody claims any
pub open-requires : goal.open-requires
open-requires c =
    let d = c.args.checked.now in
    let units : c.deref.result.now ≡ map mounted d.components =
    c.deref.ensures.value ∙ c.in_ok-units.ensures
    ∙ ap (map mounted) (c.as_slice.ensures ∙ ap (λ (x : Description). x.components) c.description.ensures.same) in
    let board : length c.in_ok-board.board ≡ length (interfaces_of d) =
    ap length c.in_ok-board.ensures ∙ length-map (interfaces_of d) idle_of in
    let places : length c.deref-2.result.now ≡ length (interfaces_of d) =
    ap length (c.deref-2.ensures.value ∙ c.in_ok-places.ensures ∙ ap₂ all_places units (c.len.ensures.count ∙ board)
    ∙ places_are d) ∙ length-map (interfaces_of d) whose_at in
    record {
      places = omega (arith, board, places);
      free = rw c.in_ok-board.ensures (free_idle (interfaces_of d));
    }

-- and as many as state and command interfaces, or more
pub measure_units-requires : goal.measure_units-requires
measure_units-requires c =
    let d = c.args.checked.now in
    let units : c.deref_mut.result.now ≡ map mounted d.components =
    c.deref_mut.ensures.value ∙ c.in_ok-units.ensures
    ∙ ap (map mounted) (c.as_slice.ensures ∙ ap (λ (x : Description). x.components) c.description.ensures.same) in
    let board : length c.open.new.board ≡ length (interfaces_of d) =
    c.open.ensures.places ∙ ap length c.in_ok-board.ensures ∙ length-map (interfaces_of d) idle_of in
    let fit = places_fit d in
    record { places = rw (units, board) (omega (arith, fit)) }

pub count_states-first_command-requires : goal.count_states-first_command-requires
count_states-first_command-requires c =
    let d = c.args.checked.now in
    let items : c.measure_units.new.units ≡ c.in_ok-units.units.items =
    c.measure_units.ensures.units ∙ c.deref_mut.ensures.value in
    let units : c.deref-4.result.now ≡ map mounted d.components =
    c.deref-4.ensures.value
    ∙ whole c.in_ok-units.units.len c.measure_units.new.units c.in_ok-units.units.items items
    (sym c.deref-3.ensures.len ∙ ap length c.deref-3.ensures.value)
    ∙ c.in_ok-units.ensures
    ∙ ap (map mounted) (c.as_slice.ensures ∙ ap (λ (x : Description). x.components) c.description.ensures.same) in
    let board : length c.measure_units.new.board ≡ length (interfaces_of d) =
    c.measure_units.ensures.places ∙ c.open.ensures.places ∙ ap length c.in_ok-board.ensures
    ∙ length-map (interfaces_of d) idle_of in
    let fit = places_fit d in
    rw (units, board) (omega (arith, fit))

-- what is put together was made of the description
made : (c : goal.After-count_states-first_command) → IsMade c.args.checked.now (record {
  components =
      take c.in_ok-units.units.len
      (c.measure_units.new.units ++ drop (length c.measure_units.new.units) c.in_ok-units.units.items);
  loans = c.measure_units.new.board;
  places = c.in_ok-places.places.items;
})
made c =
    let d = c.args.checked.now in
    let units : c.in_ok-units.units.items ≡ map mounted d.components =
    c.in_ok-units.ensures
    ∙ ap (map mounted) (c.as_slice.ensures ∙ ap (λ (x : Description). x.components) c.description.ensures.same) in
    let items : c.measure_units.new.units ≡ c.in_ok-units.units.items =
    c.measure_units.ensures.units ∙ c.deref_mut.ensures.value in
    let count : c.len.result ≡ length (interfaces_of d) =
    c.len.ensures.count ∙ ap length c.in_ok-board.ensures ∙ length-map (interfaces_of d) idle_of in
    record {
      components =
          whole c.in_ok-units.units.len c.measure_units.new.units c.in_ok-units.units.items items
          (sym c.deref-3.ensures.len ∙ ap length c.deref-3.ensures.value) ∙ units;
      places = c.in_ok-places.ensures ∙ ap₂ all_places (c.deref.ensures.value ∙ units) count;
      loans = rw (
        c.measure_units.ensures.board,
        c.open.ensures.board,
        c.deref_mut.ensures.value,
        c.deref-3.ensures.value,
        c.deref-2.ensures.value,
        c.in_ok-board.ensures,
        units,
      ) refl;
    }

pub invariant_of-result : goal.invariant_of-result
invariant_of-result c =
    let d = c.args.checked.now in
    let count : length c.measure_units.new.board ≡ length (interfaces_of d) =
    c.measure_units.ensures.places ∙ c.open.ensures.places ∙ ap length c.in_ok-board.ensures
    ∙ length-map (interfaces_of d) idle_of in
    managed_is d _ c.count_states-first_command.result (made c)
    (c.count_states-first_command.ensures ∙ ap all_states c.deref-4.ensures.value) count
    c.described_components_can_be_made.ensures.each c.described_components_can_be_made.ensures.few

pub returns : goal.returns
returns c = λ blanks sessions. start_is c.args.checked.now blanks sessions _ (made c)
