use Rattle.std.proofs.Common.{◌≡◌, ℕ, length, take}
use Rattle.stop_plan.specs.Reports.{places_where}
use Rattle.stop_plan.specs.Settled.{is_changed_by}
use Rattle.cm_model.specs.Order.{set_of}
use Rattle.stop_plan.proofs.sets.gather_changed.Given as goal

-- the places of those so far
abbrev pub invariant-loop-member : goal.invariant-loop-member
invariant-loop-member l = record {
  long : length l.set ≡ length l.fn.set;
  so_far : (p : ℕ)
      → set_of l.set p
      ≡ places_where
      (λ m. is_changed_by l.change l.transition.leaders.now (set_of l.transition.before.now)
      (set_of l.transition.after.now) m.place) (take l.member-index l.members) p;
}
