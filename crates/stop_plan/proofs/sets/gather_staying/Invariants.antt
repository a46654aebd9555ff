use Rattle.std.proofs.Common.{◌≡◌, ℕ, length, take}
use Rattle.std.specs.Prelude.{not}
use Rattle.stop_plan.specs.Reports.{places_where}
use Rattle.cm_model.specs.Order.{set_of}
use Rattle.stop_plan.proofs.sets.gather_staying.Given as goal

-- the places of those so far
abbrev pub invariant-loop-member : goal.invariant-loop-member
invariant-loop-member l = record {
  long : length l.set ≡ length l.fn.set;
  so_far : (p : ℕ)
      → set_of l.set p ≡ places_where (λ m. not (set_of l.fallen m.place)) (take l.member-index l.members) p;
}
