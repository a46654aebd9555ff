use Rattle.std.proofs.Common.{◌≡◌, ◌-◌, length}
use Rattle.cm_hardware.specs.Committed.{relent, all_relent, each_changed}
use Rattle.cm_hardware.proofs.commit.lend_places.Given as goal

-- what becomes of the places that are left is what becomes of all
abbrev pub invariant-loop-place : goal.invariant-loop-place
invariant-loop-place l = record {
  board : each_changed (relent l.places l.active l.stopped) l.place (length l.fn.board - l.place) l.board
      ≡ all_relent l.places l.active l.stopped l.fn.board;
  places : length l.board ≡ length l.fn.board;
}
