use Rattle.std.proofs.Common.{◌≡◌, drop}
use Rattle.std.specs.Prelude.{not}
use Rattle.std.specs.List.{list_any}
use Rattle.cm_model.specs.Order.{set_of}
use Rattle.switch_plan.specs.View.{scene_of}
use Rattle.switch_plan.specs.Relations.{is_clear}
use Rattle.switch_plan.proofs.clear.is_each_clear.Given as goal

-- nothing counts against those so far
abbrev pub invariant-loop-seen : goal.invariant-loop-seen
invariant-loop-seen l =
    list_any (λ s. not (is_clear (scene_of l.view) l.relations (set_of l.set) (set_of l.on) s.place))
    (drop l.seen-index l.view.loaded.now)
    ≡ list_any (λ s. not (is_clear (scene_of l.view) l.relations (set_of l.set) (set_of l.on) s.place))
    l.view.loaded.now
