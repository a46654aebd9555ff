use Rattle.std.proofs.Common.{◌≡◌, false}
use Rattle.std.specs.Prelude.{◌&&◌}
use Rattle.cm_model.specs.Order.{set_of, some_below}
use Rattle.cm_model.specs.Scene.{claims_at}
use Rattle.switch_plan.proofs.best.is_claimed.Given as goal

-- none so far claims it
abbrev pub invariant-loop-place : goal.invariant-loop-place
invariant-loop-place l = some_below (λ q. set_of l.set q && claims_at l.controllers q l.interface) l.place ≡ false
