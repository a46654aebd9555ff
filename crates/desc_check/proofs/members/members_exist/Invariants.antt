use Rattle.std.proofs.Common.{◌≡◌, drop, map}
use Rattle.cm_document.specs.Valid.{members_exist}
use Rattle.desc_check.proofs.members.members_exist.Given as goal

-- the groups that are left have the first fault of all
abbrev pub invariant-loop-group : goal.invariant-loop-group
invariant-loop-group l =
    members_exist (map (λ c. c.name) l.controllers) (drop l.group-index l.description.groups)
    ≡ members_exist (map (λ c. c.name) l.controllers) l.description.groups
