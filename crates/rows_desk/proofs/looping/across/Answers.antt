use denote.Exit as exit
use denote.Param.{param}
use denote.Param.Send.{sendable, param_send, arg_send}
use Rattle.desk_turns.proofs.LoopCrossing.{desk_loop_send}
use Rattle.rows_desk.proofs.looping.across.Goals as goal

-- the loop's console may cross where the boxes of its desk may
pub may_cross-requires-send-T : goal.may_cross-requires-send-T
may_cross-requires-send-T g c κs within =
    param_send 0 _
    (arg_send _ exit.no _ (desk_loop_send (param 0 g.row.C) g.C.Controller (search (sendable, c.type_bounds.send-C))))
