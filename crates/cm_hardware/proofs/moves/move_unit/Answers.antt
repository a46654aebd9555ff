use Rattle.std.proofs.Common.{Bool, sym, ap, ap₂, ◌∙◌}
use Rattle.cm_hardware.specs.Wiring.{Mounted}
use Rattle.hw_component.specs.Hardware.{Hardware, after_move}
use Rattle.cm_hardware.proofs.MovedLemmas.{set_moved}
use Rattle.cm_hardware.proofs.moves.move_unit.Goals as goal

-- to set the one at this place is to move it
pub returns-clause-units : goal.returns-clause-units
returns-clause-units c =
    let m : Mounted = c.index-units-place.result in
    let same = c.unit.view_is ∙ sym c.index-units-place.is in
    set_moved c.args.place c.args.target c.args.units.now m
    (record { hardware = c.to_state.new.self; failed = c.unit.inside.failed }) c.requires c.index-units-place.is
    (ap₂ (λ (h : Hardware) (b : Bool). record { hardware = h; failed = b })
    (c.to_state.ensures.state ∙ ap (λ (m : Mounted). after_move m.hardware c.args.target) same)
    (ap (λ (m : Mounted). m.failed) same))
