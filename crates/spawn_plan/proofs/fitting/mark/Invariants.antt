use Rattle.std.proofs.Common.{◌≡◌, ◌<◌, ℕ, length, drop}
use Rattle.std.specs.Prelude.{◌||◌}
use Rattle.cm_model.specs.Components.{is_listed}
use Rattle.cm_model.specs.Order.{set_of}
use Rattle.spawn_plan.proofs.fitting.mark.Given as goal

-- with the marks of the rest all are marked
abbrev pub invariant-loop-cycle : goal.invariant-loop-cycle
invariant-loop-cycle l = record {
  long : length l.marks.items ≡ length l.fn.marks.items;
  all : (cycle : ℕ) → cycle < length l.fn.marks.items
      → (set_of l.marks.items cycle || is_listed (drop l.cycle-index l.cycles) cycle)
      ≡ (set_of l.fn.marks.items cycle || is_listed l.cycles cycle);
}
