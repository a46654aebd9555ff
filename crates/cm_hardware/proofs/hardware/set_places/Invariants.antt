use Rattle.std.proofs.Common.{◌≡◌, ◌+◌, drop, length}
use Rattle.cm_hardware.specs.Wiring.{with_values}
use Rattle.cm_hardware.proofs.hardware.set_places.Given as goal

-- to set what is left, from here on, is to set all
abbrev pub invariant-loop-place : goal.invariant-loop-place
invariant-loop-place l = record {
  board : with_values l.board (l.at + l.place) (drop l.place l.values) ≡ with_values l.fn.board l.at l.values;
  places : length l.board ≡ length l.fn.board;
}
