use Rattle.chain_order.proofs.SearchLemmas.{Spreads_more}
use Rattle.chain_order.proofs.search.Search.spread.Goals as goal

pub loop-place-preserved : goal.loop-place-preserved
loop-place-preserved c =
    Spreads_more c.args.self.now c.loop-place.self c.reach.new.self c.args.places.now c.loop-place.place-index
    c.loop-place-test.true c.loop-place.invariant c.in_ok-reach.ensures
