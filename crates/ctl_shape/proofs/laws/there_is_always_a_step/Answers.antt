use Rattle.ctl_shape.proofs.LimitLemmas.{always_a_step, feasible_is_safe, begins_safe}
use Rattle.ctl_shape.proofs.laws.there_is_always_a_step.Goals as goal

pub returns-clause-begins : goal.returns-clause-begins
returns-clause-begins c = begins_safe

pub returns-clause-some : goal.returns-clause-some
returns-clause-some c = always_a_step

pub returns-clause-stays : goal.returns-clause-stays
returns-clause-stays c = feasible_is_safe
