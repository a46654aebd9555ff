use Rattle.cm_model.proofs.UpdateLemmas.{updates_leave_active}
use Rattle.cm_model.proofs.laws.updates_leave_active_who_was.Goals as goal

pub returns : goal.returns
returns c = updates_leave_active
