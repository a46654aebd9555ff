use Rattle.std.proofs.Common.{◌≡◌, false, Some, ap, sym, arith}
use Rattle.std.specs.Prelude.{is_some}
use Rattle.rows_controller.proofs.KeptLemmas.{none_of}
use Rattle.rows_controller.proofs.kinds.tried.Tried.configure.Goals as goal

-- it has the parameters that are kept, and does not run, as before
pub invariant_of-self : goal.invariant_of-self
invariant_of-self g c =
    let idle : is_some c.self.inside.chained ≡ false = grind arith in
    rw c.in-Ok.ensures.configured (ap Some (sym c.in_ok-kept.ensures), none_of c.self.inside.chained idle)
