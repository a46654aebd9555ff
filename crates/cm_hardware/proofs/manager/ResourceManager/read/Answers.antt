use Rattle.std.proofs.Common.{◌≡◌, sym}
use Rattle.cm_model.specs.State.{State}
use Rattle.cm_hardware.specs.Holding.{IsHardwareOf}
use Rattle.cm_hardware.specs.Wiring.{after_reads_in}
use Rattle.cm_hardware.proofs.CycleLemmas.{read_in_cycle}
use Rattle.cm_hardware.proofs.KeepLemmas.{alike_read, same_build}
use Rattle.cm_hardware.proofs.manager.ResourceManager.read.Goals as goal

-- the reads of the hardware are those of the state
pub returns-clause-read : goal.returns-clause-read
returns-clause-read c = λ (s : State) (is : IsHardwareOf s c.args.self.now) (ended : s.ended ≡ c.args.number).
    rw (c.read_all.ensures.hardware, c.read_all.ensures.failed, sym ended)
    (read_in_cycle s c.args.self.now c.args.failed.now.items is)

-- and change nothing of what is described
pub returns-clause-build : goal.returns-clause-build
returns-clause-build c =
    let w = c.args.self.now in
    rw (c.read_all.ensures.hardware)
    (same_build w (after_reads_in c.args.number w) (alike_read c.args.number w.components))
