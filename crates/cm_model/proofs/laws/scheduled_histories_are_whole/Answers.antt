use Rattle.cm_model.proofs.WholeLemmas.{scheduled-IsWhole}
use Rattle.cm_model.proofs.laws.scheduled_histories_are_whole.Goals as goal

pub returns : goal.returns
returns c = scheduled-IsWhole
