use Rattle.std.proofs.Common.{◌≡◌, false, ◌∙◌, ap₂, sym, subst}
use Rattle.std.specs.Prelude.{◌||◌, IfOk}
use Rattle.std.proofs.lemmas.Bool.{or_parts}
use Rattle.std.specs.List.{list_any}
use Rattle.cm_document.specs.Picks.{is_group, flat}
use Rattle.cm_document.proofs.PickLemmas.{flat-without}
use Rattle.cm_model.specs.BestEffort.{flat_decided}
use Rattle.cm_model.specs.Switches.{planned}
use Rattle.switch_plan.specs.Settings.{set_scene}
use Rattle.switch_plan.proofs.requests.decided.Goals as goal

pub returns-then-have_groups : goal.returns-then-have_groups
returns-then-have_groups c =
    let scene = set_scene c.args.setting.now in
    let request = c.args.request.now in
    subst (λ made. IfOk c.decided_as_flat.result (λ plan. plan ≡ made))
    (ap₂ (λ off on. planned scene
    (flat_decided scene request.strict (flat scene.description off) (flat scene.description on))) c.as_slice-off.ensures
    c.as_slice-on.ensures)
    c.decided_as_flat.ensures

-- lists without a group are flat as they stand
pub returns : goal.returns
returns c =
    let scene = set_scene c.args.setting.now in
    let request = c.args.request.now in
    let none : (list_any is_group request.off || list_any is_group request.on) ≡ false =
    ap₂ (λ off on. list_any is_group off || list_any is_group on) (sym c.as_slice-off.ensures)
    (sym c.as_slice-on.ensures) ∙ sym c.have_groups.ensures ∙ c.if-have_groups.false in
    let each = or_parts (list_any is_group request.off) (list_any is_group request.on) none in
    subst (λ made. IfOk c.flat_decided.result (λ plan. plan ≡ made))
    (ap₂ (λ off on. planned scene (flat_decided scene request.strict off on))
    (c.as_slice-off.ensures ∙ sym (flat-without scene.description request.off each.0))
    (c.as_slice-on.ensures ∙ sym (flat-without scene.description request.on each.1)))
    c.flat_decided.ensures
