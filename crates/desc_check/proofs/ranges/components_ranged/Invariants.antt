use Rattle.std.proofs.Common.{◌≡◌, drop}
use Rattle.std.specs.Prelude.{codes}
use Rattle.cm_document.specs.Valid.{each_ranged, component_ranged}
use Rattle.desc_check.proofs.ranges.components_ranged.Given as goal

-- the components that are left have the first fault of all
abbrev pub invariant-loop-index : goal.invariant-loop-index
invariant-loop-index l =
    each_ranged component_ranged (codes "component") l.index (drop l.index l.components)
    ≡ each_ranged component_ranged (codes "component") 0 l.components
