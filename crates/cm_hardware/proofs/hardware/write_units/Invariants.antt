use Rattle.std.proofs.Common.{◌≡◌, ◌+◌, ◌≤◌, ◌++◌, drop, take, length}
use Rattle.cm_hardware.specs.Wiring.{all_commands, all_written, failed_writes, fails_write, count}
use Rattle.cm_hardware.proofs.hardware.write_units.Given as goal

-- to write the components that are left is to write all
abbrev pub invariant-loop-place : goal.invariant-loop-place
invariant-loop-place l = record {
  places : l.at + all_commands (drop l.place l.units) ≤ length l.board;
  units : take l.place l.units ++ all_written l.cycle l.at l.board (drop l.place l.units)
      ≡ all_written l.cycle l.first l.board l.fn.units;
  failed : l.failed.items ++ failed_writes l.cycle l.place (drop l.place l.units)
      ≡ l.fn.failed.items ++ failed_writes l.cycle 0 l.fn.units;
  room : count (fails_write l.cycle) (drop l.place l.units) ≤ l.failed.room;
}
