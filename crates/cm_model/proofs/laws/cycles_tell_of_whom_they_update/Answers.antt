use Rattle.cm_model.proofs.UpdateLemmas.{cycle_tells}
use Rattle.cm_model.proofs.laws.cycles_tell_of_whom_they_update.Goals as goal

pub returns : goal.returns
returns c = cycle_tells
