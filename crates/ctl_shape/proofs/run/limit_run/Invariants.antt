use Rattle.std.proofs.Common.{ℤ, ◌-ℤ◌, ◌≤ℤ◌, List, ◌++◌, drop}
use Rattle.ctl_shape.specs.Limiters.{IsRun, IsRunFrom}
use Rattle.ctl_shape.proofs.run.limit_run.Given as goal

-- each way to go on from here is a run from the start, and it stands between the ends
abbrev pub invariant-loop-value : goal.invariant-loop-value
invariant-loop-value l = record {
  so_far : (more : List ℤ) → IsRun l.limiter l.at (l.at -ℤ l.before) (drop l.value-index l.wanted) more
      → IsRunFrom l.limiter l.fn.start l.wanted (l.outs.items ++ more);
  above : l.limiter.lowest ≤ℤ l.at;
  below : l.at ≤ℤ l.limiter.highest;
}
