use Rattle.std.proofs.Common.{◌≡◌, ◌+◌, ◌≤◌, ◌++◌, drop, length}
use Rattle.cm_hardware.proofs.hardware.tell_bodies.Given as goal

-- the bodies so far, and those that are left, are all
abbrev pub invariant-loop-joint : goal.invariant-loop-joint
invariant-loop-joint l = record {
  items : l.bodies.items ++ drop l.joint l.component.bodies ≡ l.fn.bodies.items ++ l.component.bodies;
  room : length (drop l.joint l.component.bodies) ≤ l.bodies.room;
  left : l.fn.bodies.room ≤ l.bodies.room + l.joint;
}
