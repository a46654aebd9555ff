use Rattle.cm_desk.proofs.BegunLemmas.{called_alike, out_alike, lands_alike}
use Rattle.cm_desk.proofs.laws.console_calls_leave_the_cycle_that_is_aloft.Goals as goal

pub returns-clause-alike : goal.returns-clause-alike
returns-clause-alike c = called_alike

pub returns-clause-out : goal.returns-clause-out
returns-clause-out c = out_alike

pub returns-clause-lands : goal.returns-clause-lands
returns-clause-lands c = lands_alike
