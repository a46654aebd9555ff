use Rattle.std.proofs.Common.{◌≡◌}
use Rattle.cm_model.specs.Cycle.{period}
use Rattle.cm_model.specs.State.{State}
use Rattle.cm_hardware.specs.Holding.{IsHardwareOf, IsInCycle, values_updated, IsStill}
use Rattle.cm_hardware.proofs.CycleLemmas.{ran_cycle}
use Rattle.cm_hardware.proofs.manager.ResourceManager.cycle.Goals as goal

-- a cycle of the hardware is one of the state
pub returns-clause-ran : goal.returns-clause-ran
returns-clause-ran c =
    λ (s : State) (is : IsHardwareOf s c.args.self.now) (still : IsStill s) (ended : s.ended ≡ c.args.number)
    (lasts : period s.description ≡ c.args.dt_us).
    ran_cycle s _ _ _ _ _ _ _ still (c.read.ensures.read s is ended)
    (λ (in_cycle : IsInCycle s (values_updated s) c.read.new.self). c.finish.ensures.finished s in_cycle ended lasts)
