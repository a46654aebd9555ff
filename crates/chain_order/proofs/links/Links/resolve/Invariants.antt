use Rattle.std.proofs.Common.{◌≡◌, length}
use Rattle.cm_model.specs.Order.{precedes_at}
use Rattle.chain_order.specs.Links.{places_below, each_below}
use Rattle.chain_order.proofs.links.Links.resolve.Given as goal

-- each place so far has its row
abbrev pub invariant-loop-place : goal.invariant-loop-place
invariant-loop-place l =
    l.rows ≡ each_below (λ p. places_below (λ q. precedes_at l.controllers p q) (length l.controllers)) l.place
