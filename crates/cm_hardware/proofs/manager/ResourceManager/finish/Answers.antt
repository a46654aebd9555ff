use Rattle.std.proofs.Common.{◌≡◌, sym}
use Rattle.cm_model.specs.Cycle.{period}
use Rattle.cm_model.specs.State.{State}
use Rattle.cm_hardware.specs.Holding.{IsInCycle, values_updated}
use Rattle.cm_hardware.specs.Wiring.{all_states, after_run}
use Rattle.cm_hardware.proofs.CycleLemmas.{finished}
use Rattle.cm_hardware.proofs.KeepLemmas.{alike_after, same_build}
use Rattle.cm_hardware.proofs.manager.ResourceManager.finish.Goals as goal

-- the end of a cycle of the hardware is that of the state
pub returns : goal.returns
returns c =
    let w = c.args.self.now in
    record {
      finished = λ (s : State) (is : IsInCycle s (values_updated s) w) (ended : s.ended ≡ c.args.number)
          (lasts : period s.description ≡ c.args.dt_us).
          rw (c.run.ensures.hardware, c.run.ensures.failed, c.run.ensures.bodies, sym ended, sym lasts)
          (finished s w c.args.failed.now.items c.args.bodies.now.items is c.run.ensures.sound);
      build = rw (c.run.ensures.hardware)
          (same_build w (after_run c.args.number c.args.dt_us w)
          (alike_after c.args.number c.args.dt_us (all_states w.components) w.loans w.components));
    }
