use Rattle.cm_model.proofs.HistoryLemmas.{whole-closed}
use Rattle.cm_model.proofs.laws.whole_histories_leave_the_loop_closed.Goals as goal

pub returns : goal.returns
returns c = whole-closed
