use Rattle.cm_model.specs.State.{State}
use Rattle.cm_hardware.specs.Holding.{IsHardwareOf}
use Rattle.cm_hardware.proofs.MoveAtLemmas.{moves_component}
use Rattle.cm_hardware.proofs.MovedLemmas.{build_stays}
use Rattle.cm_hardware.proofs.manager.ResourceManager.move_component.Goals as goal

-- the move of the hardware is that of the state
pub returns-clause-moved : goal.returns-clause-moved
returns-clause-moved c = λ (s : State) (is : IsHardwareOf s c.args.self.now).
    moves_component s c.args.self.now c.move_at.new.self c.args.place c.args.target c.move_at.result is
    c.move_at.ensures.sound c.requires c.move_at.ensures.answer c.move_at.ensures.hardware

pub returns-clause-build : goal.returns-clause-build
returns-clause-build c = rw (c.move_at.ensures.hardware) (build_stays c.args.place c.args.target c.args.self.now)
