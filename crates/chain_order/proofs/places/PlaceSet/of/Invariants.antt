use Rattle.std.proofs.Common.{◌≡◌, ℕ, length, take}
use Rattle.cm_model.specs.Order.{set_of, places_of}
use Rattle.chain_order.proofs.places.PlaceSet.of.Given as goal

-- the places so far
abbrev pub invariant-loop-member : goal.invariant-loop-member
invariant-loop-member l = record {
  long : length l.set ≡ l.count;
  so_far : (p : ℕ) → set_of l.set p ≡ places_of (take l.member-index l.members) p;
}
