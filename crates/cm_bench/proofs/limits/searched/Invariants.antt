use Rattle.std.proofs.Common.{◌≡◌, suc, ◌+◌, ◌-◌, nat_abs}
use Rattle.cm_model.specs.Limiters.{new_step}
use Rattle.cm_bench.specs.Shapes.{timed}
use Rattle.cm_bench.proofs.LimitLemmas.{found_from}
use Rattle.cm_bench.proofs.limits.searched.Given as goal

-- it is found from here on
abbrev pub invariant-loop-far : goal.invariant-loop-far
invariant-loop-far l =
    new_step timed l.at l.last l.wanted
    ≡ found_from l.at l.last l.wanted l.far (suc (nat_abs l.wanted + timed.longest) - l.far)
