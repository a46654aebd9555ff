use Rattle.std.proofs.Common.{◌≡◌, ◌+◌, ◌*◌, ◌≤◌, drop}
use Rattle.cm_hardware.specs.Wiring.{all_joints, AreFew}
use Rattle.cm_hardware.proofs.hardware.count_joints.Given as goal

-- those so far, and those that are left, are all
abbrev pub invariant-loop-unit : goal.invariant-loop-unit
invariant-loop-unit l = record {
  joints : l.joints + all_joints (drop l.unit-index l.units) ≡ all_joints l.units;
  few : AreFew (drop l.unit-index l.units);
  bound : l.joints ≤ l.unit-index * 4294967296;
}
