use Rattle.cm_model.proofs.LegalLemmas.{scheduled-IsLegal}
use Rattle.cm_model.proofs.laws.scheduled_histories_are_legal.Goals as goal

pub returns : goal.returns
returns c = scheduled-IsLegal
