use Rattle.std.proofs.Common.{sym, length}
use Rattle.std.specs.Prelude.{◌&&◌}
use Rattle.cm_model.specs.Order.{set_of}
use Rattle.cm_model.specs.Scene.{claims_at}
use Rattle.switch_plan.proofs.TestLemmas.{some_below-from}
use Rattle.switch_plan.proofs.best.is_claimed.Goals as goal

pub returns-then-is_claimed_at : goal.returns-then-is_claimed_at
returns-then-is_claimed_at c =
    sym (some_below-from (λ q. set_of c.args.set.now q && claims_at c.args.controllers.now q c.args.interface.now)
    (length c.args.controllers.now) c.loop-place.place
    c.loop-place-test.true (sym c.if-is_claimed_at.ensures))
