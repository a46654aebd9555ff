use Rattle.std.proofs.Common.{◌+◌, ◌≤◌, vec_len, vec_capacity}
use Rattle.cm_resources.proofs.needs.put_away.Given as goal

-- there is room for those that are left
abbrev pub invariant-loop-workspace : goal.invariant-loop-workspace
invariant-loop-workspace l = vec_len l.shelf + vec_len l.workspaces ≤ vec_capacity l.shelf

abbrev pub decreases-loop-workspace : goal.decreases-loop-workspace
decreases-loop-workspace l = vec_len l.workspaces
