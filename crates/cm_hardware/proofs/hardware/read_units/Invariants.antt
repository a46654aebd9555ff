use Rattle.std.proofs.Common.{◌≡◌, ◌+◌, ◌<◌, ◌≤◌, ◌^◌, ◌++◌, drop, take, map, length}
use Rattle.cm_hardware.specs.Wiring.{read, all_states, after_reads_of, failed_reads, fails_read, count}
use Rattle.cm_hardware.proofs.hardware.read_units.Given as goal

-- to read the components that are left is to read all
abbrev pub invariant-loop-place : goal.invariant-loop-place
invariant-loop-place l = record {
  board : after_reads_of l.cycle l.at l.board (drop l.place l.units) ≡ after_reads_of l.cycle 0 l.fn.board l.fn.units;
  places : l.at + all_states (drop l.place l.units) ≤ length l.board;
  few : length l.board < 2 ^ 32;
  units : take l.place l.units ++ map (read l.cycle) (drop l.place l.units) ≡ map (read l.cycle) l.fn.units;
  failed : l.failed.items ++ failed_reads l.cycle l.place (drop l.place l.units)
      ≡ l.fn.failed.items ++ failed_reads l.cycle 0 l.fn.units;
  room : count (fails_read l.cycle) (drop l.place l.units) ≤ l.failed.room;
  left : l.fn.failed.room + count (fails_read l.cycle) (drop l.place l.units) ≤ l.failed.room
      + count (fails_read l.cycle) l.fn.units;
}
