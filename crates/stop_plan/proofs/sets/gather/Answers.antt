use Rattle.std.proofs.Common.{◌∙◌, ap}
use Rattle.cm_model.specs.Order.{set_of}
use Rattle.chain_order.proofs.PlaceLemmas.{places_of-more}
use Rattle.stop_plan.proofs.sets.gather.Goals as goal

pub loop-member-preserved : goal.loop-member-preserved
loop-member-preserved c = record {
  long = c.insert.ensures.length ∙ c.loop-member.invariant.long;
  so_far = λ p. ap (λ f. f p) c.insert.ensures.set
      ∙ places_of-more c.args.members.now c.loop-member.member-index (record { serial = 0; place = 0 })
      (set_of c.loop-member.set)
      c.loop-member-test.true c.loop-member.invariant.so_far p;
}
