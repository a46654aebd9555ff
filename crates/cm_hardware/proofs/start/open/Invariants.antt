use Rattle.std.proofs.Common.{◌≡◌, drop, length}
use Rattle.cm_hardware.specs.Starting.{opened}
use Rattle.cm_hardware.specs.Wiring.{AreFree}
use Rattle.cm_hardware.proofs.start.open.Given as goal

-- to open the places that are left is to open all
abbrev pub invariant-loop-place : goal.invariant-loop-place
invariant-loop-place l = record {
  board : opened l.units l.place (drop l.place l.places) l.board ≡ opened l.units 0 l.places l.fn.board;
  free : AreFree l.board;
  places : length l.board ≡ length l.fn.board;
}
