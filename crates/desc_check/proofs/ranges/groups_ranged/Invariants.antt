use Rattle.std.proofs.Common.{◌≡◌, drop}
use Rattle.std.specs.Prelude.{codes}
use Rattle.cm_document.specs.Valid.{each_ranged, group_ranged}
use Rattle.desc_check.proofs.ranges.groups_ranged.Given as goal

-- the groups that are left have the first fault of all
abbrev pub invariant-loop-index : goal.invariant-loop-index
invariant-loop-index l =
    each_ranged group_ranged (codes "group") l.index (drop l.index l.groups)
    ≡ each_ranged group_ranged (codes "group") 0 l.groups
