use Rattle.std.proofs.Common.{◌≡◌, ◌++◌, map, take, drop}
use Rattle.std.specs.Prelude.{zip}
use Rattle.hw_component.specs.Drives.{driven}
use Rattle.hw_component.proofs.joints.drive.Given as goal

-- the bodies so far have made their step, and the others not
abbrev pub invariant-loop-joint : goal.invariant-loop-joint
invariant-loop-joint l =
    l.bodies ≡ map (λ p. driven l.commands l.values l.dt_us p.0 p.1) (take l.joint (zip l.claimed l.fn.bodies))
    ++ drop l.joint l.fn.bodies
