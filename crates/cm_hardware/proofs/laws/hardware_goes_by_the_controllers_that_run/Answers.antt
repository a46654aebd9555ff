use Rattle.cm_hardware.proofs.SameLemmas.{running_hardware}
use Rattle.cm_hardware.proofs.laws.hardware_goes_by_the_controllers_that_run.Goals as goal

pub returns : goal.returns
returns c = λ s t w is description lives bodies values same. running_hardware s t description lives same w is bodies
    values
