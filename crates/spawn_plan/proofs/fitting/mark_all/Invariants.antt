use Rattle.std.proofs.Common.{◌≡◌, ◌<◌, ℕ, length, drop}
use Rattle.std.specs.Prelude.{◌||◌}
use Rattle.cm_model.specs.Order.{set_of}
use Rattle.spawn_plan.specs.Spans.{is_unready}
use Rattle.spawn_plan.proofs.fitting.mark_all.Given as goal

-- with the marks of the rest all are marked
abbrev pub invariant-loop-place : goal.invariant-loop-place
invariant-loop-place l = record {
  long : length l.marks.items ≡ length l.fn.marks.items;
  all : (cycle : ℕ) → cycle < length l.fn.marks.items
      → (set_of l.marks.items cycle || is_unready l.controllers (drop l.place-index l.places) cycle)
      ≡ (set_of l.fn.marks.items cycle || is_unready l.controllers l.places cycle);
}
