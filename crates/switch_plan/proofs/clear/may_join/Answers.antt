use Rattle.std.proofs.Common.{◌≡◌, true, sym, subst, ◌∙◌}
use Rattle.std.specs.Prelude.{not, ◌&&◌}
use Rattle.std.specs.List.{list_any}
use Rattle.std.proofs.lemmas.Bool.{not-true, and_parts}
use Rattle.chain_order.specs.Links.{linked}
use Rattle.cm_model.specs.Order.{set_of}
use Rattle.switch_plan.specs.View.{scene_of}
use Rattle.switch_plan.specs.Relations.{Related, may_start, relations_of}
use Rattle.switch_plan.proofs.ClearLemmas.{fault-clear}
use Rattle.switch_plan.proofs.clear.may_join.Goals as goal

-- nothing speaks against it
pub returns : goal.returns
returns c = λ yes on.
    let scene = scene_of c.args.view.now in
    let set = set_of c.args.set.now in
    let p = c.args.place in
    let w = relations_of scene.description in
    let seen : (not (list_any (λ q. not (set q)) (linked w.followers p)) && may_start scene w set p) ≡ true =
    subst (λ (r : Related). (not (list_any (λ q. not (set q)) (linked r.followers p)) && may_start scene r set p)
    ≡ true) c.requires.relations (sym c.starts_led.ensures ∙ yes) in
    let parts = and_parts (not (list_any (λ q. not (set q)) (linked w.followers p))) (may_start scene w set p) seen in
    fault-clear scene set on p c.requires.within c.requires.view
    (not-true (list_any (λ q. not (set q)) (linked w.followers p)) parts.0) parts.1
