use Rattle.std.proofs.Common.{◌≡◌, length, ap, arith, ◌∙◌}
use Rattle.cm_model.specs.Scene.{controllers_in}
use Rattle.chain_order.specs.Links.{places_below}
use Rattle.chain_order.proofs.LinkLemmas.{length-each_below}
use Rattle.switch_plan.specs.View.{scene_of}
use Rattle.switch_plan.specs.Relations.{Related, at_odds, components_at}
use Rattle.switch_plan.proofs.clear.may_start.Goals as goal

pub odds-requires : goal.odds-requires
odds-requires c =
    let cs = controllers_in (scene_of c.args.view.now) in
    let rows : length c.args.relations.now.odds ≡ length cs =
    ap (λ (w : Related). length w.odds) c.requires.relations
    ∙ length-each_below (λ p. places_below (at_odds cs p) (length cs)) (length cs) in
    omega (arith, rows, c.requires.within)

pub components-requires : goal.components-requires
components-requires c =
    let cs = controllers_in (scene_of c.args.view.now) in
    let rows : length c.args.relations.now.components ≡ length cs =
    ap (λ (w : Related). length w.components) c.requires.relations
    ∙ length-each_below (components_at c.args.view.now.checked.now) (length cs) in
    omega (arith, rows, c.requires.within)
