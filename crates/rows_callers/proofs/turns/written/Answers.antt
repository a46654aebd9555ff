use Rattle.turn_lock.proofs.Callers.{back_are_all}
use Rattle.rows_callers.proofs.turns.written.Goals as goal

pub hand_in-requires : goal.hand_in-requires
hand_in-requires g c =
    back_are_all _ _ _ _ _ c.in_ok-lock.ensures.made c.in_ok-passes.ensures.len c.in_ok-passes.ensures.each
