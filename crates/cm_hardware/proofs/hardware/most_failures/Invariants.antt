use Rattle.std.proofs.Common.{◌≡◌, ◌+◌, ◌≤◌, drop}
use Rattle.cm_hardware.specs.Wiring.{most_failures}
use Rattle.cm_hardware.proofs.hardware.most_failures.Given as goal

-- those so far, and those that are left, are all
abbrev pub invariant-loop-unit : goal.invariant-loop-unit
invariant-loop-unit l = record {
  most : l.most + most_failures (drop l.unit-index l.units) ≡ most_failures l.units;
  few : l.most ≤ l.unit-index;
}
