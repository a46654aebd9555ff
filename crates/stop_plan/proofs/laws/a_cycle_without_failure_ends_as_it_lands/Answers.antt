use Rattle.stop_plan.specs.Ending.{told_in}
use Rattle.stop_plan.proofs.QuietLemmas.{none_stop, quiet_end}
use Rattle.stop_plan.proofs.laws.a_cycle_without_failure_ends_as_it_lands.Goals as goal

pub returns-clause-none_stopped : goal.returns-clause-none_stopped
returns-clause-none_stopped c = λ s sound well. none_stop s (told_in s) sound well

pub returns-clause-unchanged : goal.returns-clause-unchanged
returns-clause-unchanged c = λ s steady sound well. quiet_end s steady.in_order sound well
