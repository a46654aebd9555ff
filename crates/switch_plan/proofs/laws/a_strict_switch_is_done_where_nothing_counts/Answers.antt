use Rattle.switch_plan.proofs.DecisionLemmas.{strict_done, plan_done_where}
use Rattle.switch_plan.proofs.laws.a_strict_switch_is_done_where_nothing_counts.Goals as goal

pub returns-clause-plan : goal.returns-clause-plan
returns-clause-plan c = λ scene r is. plan_done_where scene r is

pub returns-clause-decision : goal.returns-clause-decision
returns-clause-decision c = λ scene off on. strict_done scene off on
