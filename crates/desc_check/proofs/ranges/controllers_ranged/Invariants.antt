use Rattle.std.proofs.Common.{◌≡◌, drop}
use Rattle.std.specs.Prelude.{codes}
use Rattle.cm_document.specs.Valid.{each_ranged, controller_ranged}
use Rattle.desc_check.proofs.ranges.controllers_ranged.Given as goal

-- the controllers that are left have the first fault of all
abbrev pub invariant-loop-index : goal.invariant-loop-index
invariant-loop-index l =
    each_ranged controller_ranged (codes "controller") l.index (drop l.index l.controllers)
    ≡ each_ranged controller_ranged (codes "controller") 0 l.controllers
