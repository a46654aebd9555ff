use Rattle.std.proofs.Common.{◌≡◌}
use Rattle.chain_order.specs.Links.{places_below}
use Rattle.switch_plan.specs.Relations.{at_odds}
use Rattle.switch_plan.proofs.relations.odds_with.Given as goal

-- the places so far that pass
abbrev pub invariant-loop-other : goal.invariant-loop-other
invariant-loop-other l = l.places ≡ places_below (at_odds l.controllers l.place) l.other
