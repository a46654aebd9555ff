use Rattle.std.proofs.Common.{◌∙◌}
use Rattle.cm_model.specs.Order.{set_of}
use Rattle.switch_plan.specs.Settings.{set_scene}
use Rattle.switch_plan.proofs.BestLemmas.{leaving-made}
use Rattle.switch_plan.proofs.best.best_leaving.Goals as goal

pub returns : goal.returns
returns c =
    c.in_ok-plan.ensures
    ∙ leaving-made (set_scene c.args.setting.now) (set_of c.args.leaving.now) (set_of c.in_ok-set.set)
    (set_of c.in_ok-again.again) c.args.dropped.items
    c.sifted.new.dropped.items c.joined.new.dropped.items c.deref.result.now c.args.on.now
    (c.deref.ensures.value ∙ c.in_ok-coming.ensures.members) c.in_ok-coming.ensures.dropped
    c.in_ok-set.ensures.joined c.in_ok-again.ensures.set
