use Rattle.std.proofs.Common.{◌≡◌, ◌≤◌, ◌++◌, drop, take, map}
use Rattle.cm_hardware.specs.Wiring.{stepped_on, all_joints, all_bodies, AreFew}
use Rattle.cm_hardware.proofs.hardware.step_units.Given as goal

-- to step the components that are left is to step all
abbrev pub invariant-loop-unit : goal.invariant-loop-unit
invariant-loop-unit l = record {
  units : take l.unit-index l.units ++ map (stepped_on l.dt_us) (drop l.unit-index l.units)
      ≡ map (stepped_on l.dt_us) l.fn.units;
  bodies : l.bodies.items ++ all_bodies (map (stepped_on l.dt_us) (drop l.unit-index l.units))
      ≡ l.fn.bodies.items ++ all_bodies (map (stepped_on l.dt_us) l.fn.units);
  few : AreFew (drop l.unit-index l.units);
  room : all_joints (drop l.unit-index l.units) ≤ l.bodies.room;
}
