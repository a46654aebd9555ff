use Rattle.std.proofs.Common.{pos}
use Rattle.cm_model.specs.Limiters.{brought}
use Rattle.ctl_shape.proofs.LimitLemmas.{run_keeps, begins_safe}
use Rattle.ctl_shape.proofs.laws.every_output_keeps_the_limits.Goals as goal

pub returns-clause-from_start : goal.returns-clause-from_start
returns-clause-from_start c =
    λ reach start wanted outs ordered run. run_keeps reach (brought reach start) (pos 0) wanted outs
    (begins_safe reach start ordered) run

pub returns-clause-from_anywhere : goal.returns-clause-from_anywhere
returns-clause-from_anywhere c = run_keeps
