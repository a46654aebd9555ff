use Rattle.std.proofs.Common.{◌≡◌, ◌++◌, map, drop}
use Rattle.hw_component.specs.Drives.{body_made}
use Rattle.hw_component.proofs.make.bodies.Given as goal

-- the bodies so far, and those of the joints that are left, are all
abbrev pub invariant-loop-joint : goal.invariant-loop-joint
invariant-loop-joint l = l.bodies.items ++ map body_made (drop l.joint-index l.joints) ≡ map body_made l.joints
