use Rattle.ctl_shape.proofs.UpdateLemmas.{limiter_begins, limiter_keeps, run_keeps}
use Rattle.ctl_shape.proofs.laws.every_update_keeps_the_limits.Goals as goal

pub returns-clause-begins : goal.returns-clause-begins
returns-clause-begins c = limiter_begins

pub returns-clause-stays : goal.returns-clause-stays
returns-clause-stays c = limiter_keeps

pub returns-clause-runs : goal.returns-clause-runs
returns-clause-runs c = run_keeps
