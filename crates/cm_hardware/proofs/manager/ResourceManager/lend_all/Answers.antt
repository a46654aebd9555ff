use Rattle.cm_hardware.specs.Wiring.{Wired}
use Rattle.cm_hardware.proofs.CommitKeepLemmas.{managed_lent}
use Rattle.cm_hardware.proofs.manager.ResourceManager.lend_all.Goals as goal

-- what is kept of the hardware is kept
pub invariant_of-self : goal.invariant_of-self
invariant_of-self c =
    let k = c.self.inside in
    let w : Wired = record { components = k.units.items; loans = k.board; places = k.places.items } in
    rw (c.lend_places.ensures.board)
    (managed_lent k.first_command c.args.places.now c.args.active.now c.args.stopped.now w c.self.invariant)
