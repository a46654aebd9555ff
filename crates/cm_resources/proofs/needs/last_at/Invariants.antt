use Rattle.std.proofs.Common.{◌≤◌, length}
use Rattle.cm_resources.proofs.needs.last_at.Given as goal

-- the place is within
abbrev pub invariant-loop-index : goal.invariant-loop-index
invariant-loop-index l = l.index ≤ length l.shelf

abbrev pub decreases-loop-index : goal.decreases-loop-index
decreases-loop-index l = l.index
