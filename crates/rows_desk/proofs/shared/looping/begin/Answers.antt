use Rattle.std.proofs.Common.{rules}
use Rattle.rows_desk.proofs.LoopPassLemmas.{begins_loop, stays_loop}
use Rattle.rows_desk.proofs.shared.looping.begin.Goals as goal

-- where memory ran out the loop stands as it stood
pub returns-in_err-flight : goal.returns-in_err-flight
returns-in_err-flight g c = stays_loop _ _ _ _ _ _ c.requires (search rules) c.in_err-flight.ensures.kept

pub returns : goal.returns
returns g c =
    begins_loop _ _ _ _ _ _ _ _ c.requires c.in_ok-flight.ensures.made c.in_ok-flight.ensures.flight
    c.replace.ensures.after
