use Rattle.cm_model.proofs.CommitLemmas.{scene_active}
use Rattle.cm_model.specs.State.{active}
use Rattle.stop_plan.proofs.QuietLemmas.{same_commit}
use Rattle.stop_plan.proofs.laws.a_commit_of_the_active_changes_nothing.Goals as goal

pub returns : goal.returns
returns c = λ s again kept none. same_commit s (active s) again (scene_active s kept.own) none
