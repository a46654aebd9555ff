use Rattle.std.proofs.Common.{◌≡◌, drop}
use Rattle.spawn_plan.specs.Wanted.{can_be_configured}
use Rattle.spawn_plan.proofs.wanted.can_be_configured.Given as goal

-- none so far refuses
abbrev pub invariant-loop-place : goal.invariant-loop-place
invariant-loop-place l =
    can_be_configured l.controllers (drop l.place-index l.places) ≡ can_be_configured l.controllers l.places
