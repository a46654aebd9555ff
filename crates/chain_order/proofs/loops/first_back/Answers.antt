use Rattle.std.proofs.Common.{arith}
use Rattle.std.proofs.lemmas.Bool.{iff_false}
use Rattle.chain_order.proofs.WayLemmas.{none_more}
use Rattle.chain_order.proofs.loops.first_back.Goals as goal

pub loop-place-preserved : goal.loop-place-preserved
loop-place-preserved c =
    none_more c.args.links.now c.loop-place.place c.loop-place.invariant
    (iff_false c.in_ok-leads_back.ensures c.if-branch.false)

pub returns : goal.returns
returns c = λ k before. c.loop-place.invariant k (omega (arith, before))
