use Rattle.std.proofs.Common.{◌≡◌, ◌++◌, drop, map}
use Rattle.toml.specs.Data.{table}
use Rattle.toml.specs.View.{view}
use Rattle.desc_text.specs.Printed.{group_tree}
use Rattle.desc_text.proofs.print.group_tables.Given as goal

-- the tables so far, and those of the groups that are left, are those of all
abbrev pub invariant-loop-group : goal.invariant-loop-group
invariant-loop-group l =
    map view l.list.items ++ map (λ g. table (group_tree g)) (drop l.group-index l.groups)
    ≡ map (λ g. table (group_tree g)) l.groups
