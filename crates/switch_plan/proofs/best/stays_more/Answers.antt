use Rattle.std.proofs.Common.{◌∙◌, ap₂, arith}
use Rattle.std.specs.Prelude.{◌&&◌, ◌||◌}
use Rattle.cm_model.specs.Scene.{controllers_in}
use Rattle.switch_plan.specs.Settings.{set_scene}
use Rattle.switch_plan.proofs.best.stays_more.Goals as goal

pub is_chained-requires : goal.is_chained-requires
is_chained-requires c = omega (arith, c.requires.within, c.requires.setting.rows)

pub returns : goal.returns
returns c =
    c.stays_or_chained.ensures
    ∙ ap₂ (λ a b. a || b) c.has.ensures (ap₂ (λ a b. a && b) (c.has-2.ensures ∙ c.requires.setting.active c.args.place)
    (c.is_chained.ensures (controllers_in (set_scene c.args.setting.now)) c.requires.setting.leaders))
