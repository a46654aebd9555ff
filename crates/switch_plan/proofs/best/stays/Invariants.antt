use Rattle.std.proofs.Common.{◌≡◌, length}
use Rattle.cm_model.specs.Order.{set_of}
use Rattle.cm_model.specs.Scene.{controllers_in}
use Rattle.cm_model.specs.BestEffort.{stays_within}
use Rattle.chain_order.specs.Links.{each_below}
use Rattle.switch_plan.specs.View.{scene_of}
use Rattle.switch_plan.proofs.best.stays.Given as goal

-- those that stay as far as so many links lead
abbrev pub invariant-loop-round : goal.invariant-loop-round
invariant-loop-round l =
    l.staying ≡ each_below (stays_within (scene_of l.setting.view) (set_of l.leaving) l._round)
    (length (controllers_in (scene_of l.setting.view)))
