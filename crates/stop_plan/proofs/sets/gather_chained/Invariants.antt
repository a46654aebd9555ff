use Rattle.std.proofs.Common.{◌≡◌, ℕ, length}
use Rattle.std.specs.Prelude.{◌&&◌, nat_lt}
use Rattle.cm_model.specs.Order.{set_of}
use Rattle.stop_plan.specs.Reports.{is_chained_by}
use Rattle.stop_plan.proofs.sets.gather_chained.Given as goal

-- the chained ones below this place
abbrev pub invariant-loop-place : goal.invariant-loop-place
invariant-loop-place l = record {
  long : length l.set ≡ length l.fn.set;
  so_far : (p : ℕ) → set_of l.set p ≡ (nat_lt p l.place && is_chained_by l.leaders (set_of l.active) p);
}
