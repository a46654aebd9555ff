use Rattle.ctl_pid.proofs.LimitLemmas.{nothing_is_within, update_keeps_integral}
use Rattle.ctl_pid.proofs.laws.no_integral_passes_imax.Goals as goal

pub returns-clause-begins : goal.returns-clause-begins
returns-clause-begins c = λ tuning states chained limits. nothing_is_within tuning.imax limits.integral

pub returns-clause-stays : goal.returns-clause-stays
returns-clause-stays c = update_keeps_integral
