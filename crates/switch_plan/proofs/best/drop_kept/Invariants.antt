use Rattle.std.proofs.Common.{◌≡◌, ◌++◌, drop}
use Rattle.std.specs.Prelude.{filter_map}
use Rattle.cm_model.specs.Order.{set_of}
use Rattle.cm_model.specs.BestEffort.{kept_drop}
use Rattle.switch_plan.specs.View.{scene_of}
use Rattle.switch_plan.proofs.best.drop_kept.Given as goal

-- the drops so far and of the rest are all
abbrev pub invariant-loop-member : goal.invariant-loop-member
invariant-loop-member l =
    l.dropped.items ++ filter_map (kept_drop (scene_of l.setting.view) (set_of l.staying)) (drop l.member-index l.asked)
    ≡ l.fn.dropped.items ++ filter_map (kept_drop (scene_of l.setting.view) (set_of l.staying)) l.asked
