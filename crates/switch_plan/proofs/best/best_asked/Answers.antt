use Rattle.std.proofs.Common.{◌∙◌}
use Rattle.cm_model.specs.Order.{set_of}
use Rattle.switch_plan.specs.Settings.{set_scene}
use Rattle.switch_plan.proofs.BestLemmas.{asked-made}
use Rattle.switch_plan.proofs.best.best_asked.Goals as goal

pub returns : goal.returns
returns c =
    c.in_ok-plan.ensures
    ∙ asked-made (set_scene c.args.setting.now) c.args.asked.now (set_of c.in_ok-leaving.leaving)
    (set_of c.in_ok-staying.staying) (set_of c.in_ok-leaving-2.leaving)
    c.in_ok-leaving.ensures.set c.in_ok-staying.ensures.set c.in_ok-leaving-2.ensures.set c.args.dropped.items
    c.drop_kept.new.dropped.items c.args.on.now c.in_ok-drop_kept.ensures
