use Rattle.std.proofs.Common.{subst}
use Rattle.turn_lock.specs.Calls.Finish.{AreAll}
use Rattle.turn_lock.proofs.Callers.{last_first}
use Rattle.rows_callers.proofs.turns.hand_in.Goals as goal

pub finish-requires : goal.finish-requires
finish-requires c =
    record { passes = last_first c.args.lock _ _ (subst (AreAll c.args.lock) c.in_ok-last.ensures.items c.requires) }
