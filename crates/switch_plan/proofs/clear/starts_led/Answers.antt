use Rattle.std.proofs.Common.{◌≡◌, length, ap, arith, ◌∙◌}
use Rattle.cm_model.specs.Order.{precedes_at}
use Rattle.cm_model.specs.Scene.{controllers_in}
use Rattle.chain_order.specs.Links.{places_below}
use Rattle.chain_order.proofs.LinkLemmas.{length-each_below}
use Rattle.switch_plan.specs.View.{scene_of}
use Rattle.switch_plan.specs.Relations.{Related}
use Rattle.switch_plan.proofs.clear.starts_led.Goals as goal

pub followers-requires : goal.followers-requires
followers-requires c =
    let cs = controllers_in (scene_of c.args.view.now) in
    let rows : length c.args.relations.now.followers ≡ length cs =
    ap (λ (w : Related). length w.followers) c.requires.relations
    ∙ length-each_below (λ p. places_below (λ q. precedes_at cs p q) (length cs)) (length cs) in
    omega (arith, rows, c.requires.within)
