use Rattle.std.proofs.Common.{◌≡◌, ◌++◌, drop, take, map}
use Rattle.cm_hardware.specs.Wiring.{after_failure}
use Rattle.cm_hardware.proofs.hardware.fail_each.Given as goal

-- what becomes of the components that are left is what becomes of all
abbrev pub invariant-loop-unit : goal.invariant-loop-unit
invariant-loop-unit l =
    take l.unit-index l.units ++ map after_failure (drop l.unit-index l.units) ≡ map after_failure l.fn.units
