use Rattle.switch_plan.proofs.LeavingLemmas.{reduced_CanLeave, reduced_is_union, asked_active}
use Rattle.switch_plan.proofs.laws.the_greatest_subset_leaves.Goals as goal

pub returns-clause-union : goal.returns-clause-union
returns-clause-union c = λ scene asked run. reduced_is_union scene asked run

pub returns-clause-itself : goal.returns-clause-itself
returns-clause-itself c = λ scene asked run. reduced_CanLeave scene asked run

pub returns-clause-asked : goal.returns-clause-asked
returns-clause-asked c = λ scene off. asked_active scene off
