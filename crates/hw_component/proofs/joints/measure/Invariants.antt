use Rattle.std.proofs.Common.{◌≡◌, ◌++◌, map, take, drop}
use Rattle.cm_model.specs.Components.{measured_at}
use Rattle.hw_component.specs.Drives.{states_in}
use Rattle.hw_component.proofs.joints.measure.Given as goal

-- the places so far hold what is measured, and the others what they held
abbrev pub invariant-loop-place : goal.invariant-loop-place
invariant-loop-place l =
    l.places ≡ map (measured_at (states_in l.bodies)) (take l.place l.interfaces) ++ drop l.place l.fn.places
