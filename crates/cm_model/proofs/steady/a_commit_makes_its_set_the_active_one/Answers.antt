use Rattle.cm_model.proofs.CommitLemmas.{commit_active}
use Rattle.cm_model.proofs.steady.a_commit_makes_its_set_the_active_one.Goals as goal

pub returns : goal.returns
returns c = commit_active
