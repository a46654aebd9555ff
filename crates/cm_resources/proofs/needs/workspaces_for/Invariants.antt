use Rattle.std.proofs.Common.{take}
use Rattle.cm_resources.specs.CycleNeeds.{AreWorkspaces}
use Rattle.cm_resources.proofs.needs.workspaces_for.Given as goal

-- those so far are theirs
abbrev pub invariant-loop-member : goal.invariant-loop-member
invariant-loop-member l = AreWorkspaces l.places (take l.member-index l.order) l.workspaces.items
