use Rattle.std.proofs.Common.{◌≡◌, ◌<◌, ◌^◌, drop, length}
use Rattle.cm_hardware.specs.Wiring.{is_of, changed_where, vacated}
use Rattle.cm_hardware.proofs.moves.vacate_component.Given as goal

-- what becomes of the places that are left is what becomes of all
abbrev pub invariant-loop-place : goal.invariant-loop-place
invariant-loop-place l = record {
  board : changed_where (is_of l.component) vacated l.place (drop l.place l.places) l.board
      ≡ changed_where (is_of l.component) vacated 0 l.places l.fn.board;
  places : length l.board ≡ length l.fn.board;
  few : length l.board < 2 ^ 32;
}
