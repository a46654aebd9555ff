use Rattle.switch_plan.proofs.MaximalLemmas.{none_at_its_turn, dropped_stay_faulty, none_afterwards}
use Rattle.switch_plan.proofs.laws.a_best_effort_is_maximal.Goals as goal

pub returns-clause-at_its_turn : goal.returns-clause-at_its_turn
returns-clause-at_its_turn c = λ scene off on dropped set again is. none_at_its_turn scene off on dropped set again is

pub returns-clause-afterwards : goal.returns-clause-afterwards
returns-clause-afterwards c = λ scene off on dropped set again is. dropped_stay_faulty scene off on dropped set again is

pub returns-clause-maximal : goal.returns-clause-maximal
returns-clause-maximal c = λ scene off on dropped set again is. none_afterwards scene off on dropped set again is
