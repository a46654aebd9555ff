use Rattle.std.proofs.Common.{◌≡◌, ◌++◌, map, take, drop}
use Rattle.hw_component.specs.Drives.{at_rest}
use Rattle.hw_component.proofs.joints.rest.Given as goal

-- the bodies so far have made their step, and the others not
abbrev pub invariant-loop-joint : goal.invariant-loop-joint
invariant-loop-joint l = l.bodies ≡ map at_rest (take l.joint l.fn.bodies) ++ drop l.joint l.fn.bodies
