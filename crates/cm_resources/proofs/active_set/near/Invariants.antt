use Rattle.std.proofs.Common.{◌-◌, ◌≤◌, length}
use Rattle.cm_resources.proofs.active_set.near.Given as goal

-- what is left to be looked at is within
abbrev pub invariant-loop-low : goal.invariant-loop-low
invariant-loop-low g l = (l.low ≤ l.high) × (l.high ≤ length l.slots)

abbrev pub decreases-loop-low : goal.decreases-loop-low
decreases-loop-low g l = l.high - l.low
