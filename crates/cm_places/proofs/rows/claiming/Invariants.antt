use Rattle.std.proofs.Common.{◌≡◌}
use Rattle.cm_model.specs.Scene.{claims_at}
use Rattle.chain_order.specs.Links.{places_below}
use Rattle.cm_places.proofs.rows.claiming.Given as goal

-- the places so far that pass
abbrev pub invariant-loop-place : goal.invariant-loop-place
invariant-loop-place l = l.places ≡ places_below (λ p. claims_at l.controllers p l.name) l.place
