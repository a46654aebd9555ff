use Rattle.std.proofs.Common.{◌≡◌}
use Rattle.cm_model.specs.Order.{set_of}
use Rattle.cm_model.specs.BestEffort.{stays_more}
use Rattle.chain_order.specs.Links.{each_below}
use Rattle.switch_plan.specs.View.{scene_of}
use Rattle.switch_plan.proofs.best.stays_besides.Given as goal

-- the flags so far
abbrev pub invariant-loop-place : goal.invariant-loop-place
invariant-loop-place l = l.flags.items ≡ each_below (stays_more (scene_of l.setting.view) (set_of l.staying)) l.place
