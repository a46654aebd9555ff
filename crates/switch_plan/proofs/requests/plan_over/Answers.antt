use Rattle.std.proofs.Common.{◌∙◌, ap, length}
use Rattle.cm_model.specs.Order.{precedes_at}
use Rattle.cm_model.specs.Scene.{controllers_in}
use Rattle.chain_order.specs.Links.{places_below}
use Rattle.chain_order.proofs.LinkLemmas.{length-each_below}
use Rattle.switch_plan.specs.View.{scene_of}
use Rattle.switch_plan.proofs.requests.plan_over.Goals as goal

pub decided-requires : goal.decided-requires
decided-requires c =
    let cs = controllers_in (scene_of c.args.view.now) in
    record {
      view = c.requires.view;
      leaders = c.requires.leaders;
      rows = ap length c.requires.leaders
          ∙ length-each_below (λ p. places_below (λ q. precedes_at cs q p) (length cs)) (length cs);
      active = c.in_ok-active.ensures.set;
      flags = c.in_ok-active.ensures.length;
      relations = c.requires.relations;
    }
