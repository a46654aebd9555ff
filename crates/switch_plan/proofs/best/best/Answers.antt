use Rattle.std.proofs.Common.{[], ◌++◌, ◌∙◌, ap, ap₂}
use Rattle.cm_model.specs.Switches.{off_fault, planned}
use Rattle.cm_model.specs.BestEffort.{faulty, best_asked}
use Rattle.switch_plan.specs.Settings.{set_scene}
use Rattle.switch_plan.proofs.best.best.Goals as goal

pub returns : goal.returns
returns c =
    let scene = set_scene c.args.setting.now in
    c.in_ok-plan.ensures
    ∙ ap₂ (λ asked dropped. planned scene (best_asked scene asked dropped c.args.on.now))
    (c.deref.ensures.value ∙ c.in_ok-asked.ensures.members)
    (c.in_ok-asked.ensures.dropped
    ∙ ap (λ before. before ++ faulty (off_fault scene) [] c.args.off.now) c.new-dropped.ensures.items)
