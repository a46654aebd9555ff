use Rattle.cm_model.proofs.ControllerLemmas.{ctl_step_keeps_chained}
use Rattle.cm_model.proofs.laws.steps_keep_whether_a_controller_is_chained.Goals as goal

pub returns : goal.returns
returns c = ctl_step_keeps_chained
