use Rattle.std.proofs.Common.{◌≡◌}
use Rattle.cm_model.specs.Order.{precedes_at}
use Rattle.chain_order.specs.Links.{places_below}
use Rattle.chain_order.proofs.links.followers.Given as goal

-- the places so far that pass
abbrev pub invariant-loop-other : goal.invariant-loop-other
invariant-loop-other l = l.places ≡ places_below (precedes_at l.controllers l.place) l.other
