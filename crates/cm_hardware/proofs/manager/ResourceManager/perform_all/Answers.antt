use Rattle.std.proofs.Common.{◌≡◌, length, arith}
use Rattle.std.proofs.lemmas.List.{with_items_is}
use Rattle.cm_hardware.specs.Committed.{all_performed}
use Rattle.cm_hardware.specs.Wiring.{Wired, all_states}
use Rattle.cm_hardware.proofs.CommitKeepLemmas.{managed_performed}
use Rattle.cm_hardware.proofs.manager.ResourceManager.perform_all.Goals as goal

-- what is kept of the hardware is kept
pub invariant_of-self : goal.invariant_of-self
invariant_of-self c =
    let k = c.self.inside in
    let w : Wired = record { components = k.units.items; loans = k.board; places = k.places.items } in
    let units : c.perform_units.new.units ≡ all_performed k.board (all_states k.units.items) k.units.items =
    rw (c.as_mut_slice-units.ensures.value, c.self.invariant.first) at c.perform_units.ensures in
    let long : length c.perform_units.new.units ≡ k.units.len = omega arith in
    rw (with_items_is k.units c.perform_units.new.units long, units)
    (managed_performed k.first_command w c.self.invariant)
