use Rattle.std.proofs.Common.{◌≡◌, ◌+◌, ◌≤◌, ◌++◌, drop, take, length}
use Rattle.cm_hardware.specs.Committed.{all_performed}
use Rattle.cm_hardware.specs.Wiring.{all_commands}
use Rattle.cm_hardware.proofs.commit.perform_units.Given as goal

-- what becomes of the components that are left is what becomes of all
abbrev pub invariant-loop-unit : goal.invariant-loop-unit
invariant-loop-unit l = record {
  places : l.at + all_commands (drop l.unit-index l.units) ≤ length l.board;
  units : take l.unit-index l.units ++ all_performed l.board l.at (drop l.unit-index l.units)
      ≡ all_performed l.board l.first l.fn.units;
}
