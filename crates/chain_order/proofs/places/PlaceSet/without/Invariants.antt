use Rattle.std.proofs.Common.{◌≡◌}
use Rattle.std.specs.Prelude.{◌&&◌, not}
use Rattle.cm_model.specs.Order.{set_of}
use Rattle.chain_order.specs.Links.{each_below}
use Rattle.chain_order.proofs.places.PlaceSet.without.Given as goal

-- the flags so far
abbrev pub invariant-loop-place : goal.invariant-loop-place
invariant-loop-place l = l.flags.items ≡ each_below (λ p. set_of l.self p && not (set_of l.other p)) l.place
