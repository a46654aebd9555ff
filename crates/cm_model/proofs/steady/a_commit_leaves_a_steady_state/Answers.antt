use Rattle.cm_model.proofs.CommitLemmas.{commit_steady}
use Rattle.cm_model.proofs.steady.a_commit_leaves_a_steady_state.Goals as goal

pub returns : goal.returns
returns c = commit_steady
