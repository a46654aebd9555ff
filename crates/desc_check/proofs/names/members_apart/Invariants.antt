use Rattle.std.proofs.Common.{◌≡◌, drop}
use Rattle.cm_document.specs.Valid.{members_apart}
use Rattle.desc_check.proofs.names.members_apart.Given as goal

-- the groups that are left have the first fault of all
abbrev pub invariant-loop-group : goal.invariant-loop-group
invariant-loop-group l = members_apart (drop l.group-index l.groups) ≡ members_apart l.groups
