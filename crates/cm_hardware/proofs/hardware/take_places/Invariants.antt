use Rattle.std.proofs.Common.{◌≡◌, ◌+◌, ◌++◌, drop, take, length}
use Rattle.cm_hardware.specs.Wiring.{values_at}
use Rattle.cm_hardware.proofs.hardware.take_places.Given as goal

-- what is taken, and what is left to take, is all of it
abbrev pub invariant-loop-place : goal.invariant-loop-place
invariant-loop-place l = record {
  taken : take l.place l.values ++ values_at l.board (l.at + l.place) (length (drop l.place l.values))
      ≡ values_at l.board l.at (length l.fn.values);
  places : length l.values ≡ length l.fn.values;
}
