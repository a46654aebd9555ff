use Rattle.std.proofs.Common.{◌≡◌, length}
use Rattle.chain_order.specs.Links.{places_below, each_below}
use Rattle.switch_plan.specs.Relations.{at_odds}
use Rattle.switch_plan.proofs.relations.odds.Given as goal

-- each place so far has its row
abbrev pub invariant-loop-place : goal.invariant-loop-place
invariant-loop-place l =
    l.rows ≡ each_below (λ p. places_below (at_odds l.controllers p) (length l.controllers)) l.place
