use Rattle.std.proofs.Common.{◌≡◌, ℕ, length, take}
use Rattle.cm_model.specs.Order.{set_of, places_of}
use Rattle.stop_plan.proofs.sets.gather.Given as goal

-- the places so far
abbrev pub invariant-loop-member : goal.invariant-loop-member
invariant-loop-member l = record {
  long : length l.set ≡ length l.fn.set;
  so_far : (p : ℕ) → set_of l.set p ≡ places_of (take l.member-index l.members) p;
}
