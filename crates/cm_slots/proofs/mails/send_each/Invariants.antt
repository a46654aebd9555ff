use Rattle.std.proofs.Common.{◌≡◌, ◌+◌, ◌≤◌, ◌++◌, length, map, take, drop, vec_len, vec_capacity}
use Rattle.std.specs.List.{AllByRecursion}
use Rattle.cm_slots.specs.Mails.{without_sent, with_all_sent}
use Rattle.cm_slots.specs.Updates.{HasTime}
use Rattle.cm_slots.proofs.mails.send_each.Given as goal

-- the mail of those so far is aloft, and there is room for that of the others
abbrev pub invariant-loop-slot : goal.invariant-loop-slot
invariant-loop-slot g l = record {
  slots : take l.slot-index l.slots ++ map (without_sent l.cycle) (drop l.slot-index l.slots)
      ≡ map (without_sent l.cycle) l.fn.slots;
  mails : with_all_sent l.cycle (drop l.slot-index l.slots) l.mails.items
      ≡ with_all_sent l.cycle l.fn.slots l.fn.mails.items;
  time : AllByRecursion HasTime (drop l.slot-index l.slots);
  room : vec_len l.mails + length (drop l.slot-index l.slots) ≤ vec_capacity l.mails;
}
