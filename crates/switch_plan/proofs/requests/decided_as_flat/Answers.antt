use Rattle.std.proofs.Common.{◌∙◌, ap, ap₂}
use Rattle.cm_document.specs.Picks.{flat}
use Rattle.cm_document.specs.declared.description.Description.{Description}
use Rattle.cm_model.specs.BestEffort.{flat_decided}
use Rattle.cm_model.specs.Switches.{planned}
use Rattle.switch_plan.specs.Settings.{set_scene}
use Rattle.switch_plan.proofs.requests.decided_as_flat.Goals as goal

pub returns : goal.returns
returns c =
    let scene = set_scene c.args.setting.now in
    c.in_ok-plan.ensures
    ∙ ap₂ (λ off on. planned scene (flat_decided scene c.args.whole off on))
    (c.deref.ensures.value ∙ c.in_ok-off.ensures
    ∙ ap (λ (d : Description). flat d c.args.off.now) c.description-description.ensures.same)
    (c.deref-2.ensures.value ∙ c.in_ok-on.ensures
    ∙ ap (λ (d : Description). flat d c.args.on.now) c.description-description.ensures.same)
