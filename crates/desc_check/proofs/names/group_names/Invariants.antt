use Rattle.std.proofs.Common.{◌≡◌, map, take}
use Rattle.desc_check.proofs.names.group_names.Given as goal

-- the names of the groups so far
abbrev pub invariant-loop-group : goal.invariant-loop-group
invariant-loop-group l = map (λ name. name.now) l.names.items ≡ map (λ g. g.name) (take l.group-index l.groups)
