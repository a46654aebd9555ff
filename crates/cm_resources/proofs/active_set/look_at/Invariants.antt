use Rattle.std.proofs.Common.{◌≡◌, None, drop, length, replicate}
use Rattle.cm_resources.specs.ActiveSet.{noted_all}
use Rattle.cm_resources.proofs.active_set.look_at.Given as goal

-- with those that are left, all are noted
abbrev pub invariant-loop-slot : goal.invariant-loop-slot
invariant-loop-slot g l = record {
  noted : noted_all (drop l.slot-index l.slots) l.active ≡ noted_all l.slots (replicate (length l.fn.active) None);
  places : length l.active ≡ length l.fn.active;
}
