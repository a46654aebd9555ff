use Rattle.std.proofs.Common.{◌≡◌, Some, None, ◌∙◌, ap, sym, subst}
use Rattle.cm_document.specs.Picks.{picked_names}
use Rattle.cm_model.specs.Order.{set_of, places_of}
use Rattle.cm_model.specs.Scene.{named}
use Rattle.switch_plan.specs.Lists.{list_fault, IsListed}
use Rattle.switch_plan.specs.Settings.{set_scene}
use Rattle.switch_plan.proofs.StrictLemmas.{strict-sets}
use Rattle.switch_plan.proofs.strict.strict.Goals as goal

pub returns : goal.returns
returns c =
    let scene = set_scene c.args.setting.now in
    let leaves = c.in_ok-leaving-in-Faultless.leaving in
    let comes = c.in_ok-coming-in-Faultless-2.coming in
    let off = subst (IsListed scene (list_fault scene None) c.args.off.now) c.in-Faultless.is c.in_ok-members.ensures in
    let on = subst (IsListed scene (list_fault scene (Some leaves)) c.args.on.now) c.in-Faultless-2.is
    c.in_ok-members-2.ensures in
    let leaving : set_of leaves ≡ named scene (picked_names c.args.off.now) =
    c.in_ok-leaving-in-Faultless.ensures.set ∙ ap places_of (c.deref.ensures.value ∙ off.1) in
    let coming : set_of comes ≡ named scene (picked_names c.args.on.now) =
    c.in_ok-coming-in-Faultless-2.ensures.set ∙ ap places_of (c.deref-in-Faultless-2.ensures.value ∙ on.1) in
    c.in_ok-plan.ensures
    ∙ sym (strict-sets scene c.args.off.now c.args.on.now (set_of leaves) (set_of comes) leaving coming off.0 on.0)
