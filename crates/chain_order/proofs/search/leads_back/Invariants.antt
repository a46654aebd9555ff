use Rattle.chain_order.specs.Search.{turns_left}
use Rattle.chain_order.proofs.SearchLemmas.{IsSearch}
use Rattle.chain_order.proofs.search.leads_back.Given as goal

abbrev pub invariant-loop-place : goal.invariant-loop-place
invariant-loop-place l = IsSearch l.links l.start l.search

abbrev pub decreases-loop-place : goal.decreases-loop-place
decreases-loop-place l = turns_left l.search
