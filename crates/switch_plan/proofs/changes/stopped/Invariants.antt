use Rattle.std.proofs.Common.{◌≡◌, take}
use Rattle.cm_model.specs.Order.{set_of}
use Rattle.cm_model.specs.Switches.{is_stopped}
use Rattle.switch_plan.specs.View.{scene_of}
use Rattle.switch_plan.proofs.KeptLemmas.{kept}
use Rattle.switch_plan.proofs.changes.stopped.Given as goal

-- those so far
abbrev pub invariant-loop-seen : goal.invariant-loop-seen
invariant-loop-seen l =
    l.list.items
    ≡ kept (λ s. is_stopped (scene_of l.change.setting.view) (set_of l.change.set.now) (set_of l.change.again.now)
    s.place) (take l.seen-index l.change.setting.view.loaded.now)
