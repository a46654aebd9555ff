use Rattle.std.proofs.Common.{◌≡◌, false, List, length, sym, ap, ◌∙◌, arith}
use Rattle.std.proofs.lemmas.List.{with_items_is}
use Rattle.cm_model.specs.Components.{has_move}
use Rattle.cm_hardware.specs.Wiring.{Mounted, Wired, all_states, life_in, moved_at, settled, after_move_at}
use Rattle.cm_hardware.proofs.KeepLemmas.{states_stay}
use Rattle.cm_hardware.proofs.MovedLemmas.{alike_at, refused, not_moved, not_moved_at, managed_moved, managed_settled}
use Rattle.cm_hardware.proofs.manager.ResourceManager.move_at.Goals as goal

-- what is kept stays so where the move is refused
pub invariant_of-self : goal.invariant_of-self
invariant_of-self c =
    let k = c.self.inside in
    let w : Wired = record { components = k.units.items; loans = k.board; places = k.places.items } in
    let units : c.move_unit.new.units ≡ moved_at c.args.place c.args.target k.units.items =
    rw (c.as_mut_slice-units.ensures.value) at c.move_unit.ensures.units in
    let long : length c.move_unit.new.units ≡ k.units.len = omega arith in
    rw (with_items_is k.units c.move_unit.new.units long, units)
    (managed_moved k.first_command c.args.place c.args.target w c.self.invariant)

-- nothing changes then
pub returns-in_err-move_unit-clause-hardware : goal.returns-in_err-move_unit-clause-hardware
returns-in_err-move_unit-clause-hardware c =
    let k = c.self.inside in
    let place = c.args.place in
    let target = c.args.target in
    let w : Wired = record { components = k.units.items; loans = k.board; places = k.places.items } in
    let units : c.move_unit.new.units ≡ moved_at place target k.units.items =
    rw (c.as_mut_slice-units.ensures.value) at c.move_unit.ensures.units in
    let answer = rw (c.as_mut_slice-units.ensures.value) at c.move_unit.ensures.answer in
    let none : has_move (life_in place k.units.items) target ≡ false =
    refused place target k.units.items c.in_err-move_unit.field-0.0 (sym answer ∙ c.in_err-move_unit.was) in
    let long : length c.move_unit.new.units ≡ k.units.len = omega arith in
    let before : w ≡ c.args.self.now = c.self.view_is in
    ap (λ (ms : List Mounted). record { components = ms; loans = k.board; places = k.places.items })
    (with_items_is k.units c.move_unit.new.units long ∙ units ∙ not_moved place target k.units.items none)
    ∙ sym (not_moved_at place target w none) ∙ ap (after_move_at place target) before

-- there are places for all state interfaces
pub settle-requires : goal.settle-requires
settle-requires c =
    let k = c.self.inside in
    let ms = k.units.items in
    let units : c.move_unit.new.units ≡ moved_at c.args.place c.args.target k.units.items =
    rw (c.as_mut_slice-units.ensures.value) at c.move_unit.ensures.units in
    let states : all_states c.move_unit.new.units ≡ all_states k.units.items =
    ap all_states units
    ∙ states_stay k.units.items (moved_at c.args.place c.args.target k.units.items)
    (alike_at c.args.place c.args.target k.units.items) in
    let here : length ms ≡ length c.args.self.now.components = ap (λ (w : Wired). length w.components) c.self.view_is in
    let long : length c.move_unit.new.units ≡ k.units.len = omega arith in
    record {
      place = omega (arith, long, k.units.ok.0, here, c.requires);
      places = rw (c.deref.ensures.value) (omega (arith, c.self.invariant.places));
      states = omega (arith, states, c.self.invariant.first, c.self.invariant.fits);
    }

-- and where the component moved
pub invariant_of-self-2 : goal.invariant_of-self-2
invariant_of-self-2 c =
    let k = c.self.inside in
    let place = c.args.place in
    let target = c.args.target in
    let had = c.has_interfaces-had.result in
    let w : Wired = record { components = k.units.items; loans = k.board; places = k.places.items } in
    let units : c.move_unit.new.units ≡ moved_at place target k.units.items =
    rw (c.as_mut_slice-units.ensures.value) at c.move_unit.ensures.units in
    let after : c.settle.new.units ≡ moved_at place target k.units.items = c.settle.ensures.units ∙ units in
    let loans : c.settle.new.board ≡ settled place had (moved_at place target k.units.items) k.places.items k.board =
    rw (units, c.deref.ensures.value) at c.settle.ensures.board in
    let long : length c.settle.new.units ≡ k.units.len = omega arith in
    rw (with_items_is k.units c.settle.new.units long, after, loans)
    (managed_settled k.first_command place target had w c.self.invariant)
