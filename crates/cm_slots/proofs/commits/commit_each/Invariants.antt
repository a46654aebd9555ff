use Rattle.std.proofs.Common.{◌≡◌, ◌++◌, false, length, map, take, drop, option_map}
use Rattle.std.specs.List.{AllByRecursion}
use Rattle.cm_slots.specs.Commits.{committed_at}
use Rattle.cm_slots.specs.Connections.{IsConnected, HasRoom}
use Rattle.cm_slots.specs.Slots.{box_of}
use Rattle.cm_slots.proofs.commits.commit_each.Given as goal

-- those so far are committed, the others are as they were, and each box is in its slot
abbrev pub invariant-loop-i : goal.invariant-loop-i
invariant-loop-i g l = record {
  slots : take l.i l.slots
      ++ map (committed_at l.places l.hardware.loans l.chained l.stopped l.started) (drop l.i l.slots)
      ≡ map (committed_at l.places l.hardware.loans l.chained l.stopped l.started) l.fn.slots;
  home : map (option_map g.C.Controller.meaning) l.boxes ≡ map (box_of false) l.slots;
  connected : AllByRecursion (IsConnected l.places (length l.hardware.loans)) (drop l.i l.slots);
  has_room : AllByRecursion (HasRoom l.places l.fn.room) (drop l.i l.slots);
  count : length l.slots ≡ length l.fn.slots;
  places : length l.boxes ≡ length l.fn.slots;
  room : l.room ≡ l.fn.room;
}
