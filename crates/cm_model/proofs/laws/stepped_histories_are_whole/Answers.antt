use Rattle.cm_model.proofs.WholeLemmas.{steps-IsWhole}
use Rattle.cm_model.proofs.laws.stepped_histories_are_whole.Goals as goal

pub returns : goal.returns
returns c = steps-IsWhole
