use Rattle.std.proofs.Common.{drop}
use Rattle.cm_resources.specs.CycleNeeds.{AreWorkspacesFor}
use Rattle.cm_resources.proofs.needs.are_workspaces_of.Given as goal

-- they are all theirs, where those that are left are
abbrev pub invariant-loop-i : goal.invariant-loop-i
invariant-loop-i l = AreWorkspacesFor (drop l.i l.order) (drop l.i l.workspaces) → AreWorkspacesFor l.order l.workspaces
