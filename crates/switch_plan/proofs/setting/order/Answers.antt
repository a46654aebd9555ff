use Rattle.std.proofs.Common.{◌∙◌, ap}
use Rattle.cm_model.specs.Order.{set_of, in_order}
use Rattle.cm_model.specs.Scene.{controllers_in}
use Rattle.switch_plan.specs.View.{scene_of}
use Rattle.switch_plan.proofs.setting.order.Goals as goal

pub returns-clause-order : goal.returns-clause-order
returns-clause-order c = c.in_ok-ordered.ensures.order
    ∙ ap (in_order (controllers_in (scene_of c.args.setting.now.view)) (set_of c.args.set.now))
    (c.deref.ensures.value ∙ c.in_ok-list.ensures.members)
