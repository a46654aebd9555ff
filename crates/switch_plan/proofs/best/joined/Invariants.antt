use Rattle.std.proofs.Common.{◌≡◌, length, drop}
use Rattle.cm_model.specs.Order.{set_of, places_of}
use Rattle.cm_model.specs.Scene.{controllers_in}
use Rattle.cm_model.specs.BestEffort.{join_all, joining}
use Rattle.switch_plan.specs.View.{scene_of}
use Rattle.switch_plan.proofs.best.joined.Given as goal

-- those that are left join what joined so far
abbrev pub invariant-loop-member : goal.invariant-loop-member
invariant-loop-member l = record {
  long : length l.set ≡ length (controllers_in (scene_of l.setting.view));
  rest : join_all (scene_of l.setting.view) (places_of l.coming)
      (record { set = set_of l.set; dropped = l.dropped.items }) (drop l.member-index l.member-items)
      ≡ joining (scene_of l.setting.view) (set_of l.leaving) l.fn.dropped.items l.coming;
}
