use Rattle.std.proofs.Common.{◌≡◌, ◌<◌, ◌^◌, drop, length}
use Rattle.cm_hardware.specs.Wiring.{after_failures_of}
use Rattle.cm_hardware.proofs.hardware.leave_places.Given as goal

-- what becomes of the places that are left is what becomes of all
abbrev pub invariant-loop-place : goal.invariant-loop-place
invariant-loop-place l = record {
  board : after_failures_of l.units l.place (drop l.place l.places) l.board
      ≡ after_failures_of l.units 0 l.places l.fn.board;
  places : length l.board ≡ length l.fn.board;
  few : length l.board < 2 ^ 32;
}
