use Rattle.cm_model.proofs.LegalLemmas.{steps-IsLegal}
use Rattle.cm_model.proofs.laws.stepped_histories_are_legal.Goals as goal

pub returns : goal.returns
returns c = steps-IsLegal
