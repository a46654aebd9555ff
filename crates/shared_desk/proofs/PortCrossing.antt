-- The consoles over passes may cross threads where boxes may and the handle may be shared.
use denote.RattleType.{RattleType}
use denote.Param.Send.{IsSend, IsSync, sendable}
use denote.Param.SendFields.{declared_send, as_row_send}
use denote.Ref.{NamedLft}
use denote.Struct.Field.{shr_ref_field}
use Rattle.std.proofs.Crossing.{crosses}
use Rattle.ctl_trait.specs.declared.controller.Controller.{Ghosts}
use Rattle.shared_desk.specs.contracts.passes.LoopPass as LoopPass
use Rattle.shared_desk.specs.contracts.ports.LoopEnd as LoopEnd
use Rattle.shared_desk.specs.contracts.ports.SessionPort as SessionPort
use Rattle.shared_desk.specs.contracts.shared.SharedDesk as SharedDesk
use Rattle.shared_desk.proofs.Crossing.{meanings, console_pass_send, desk_sync}

-- a session's console
pub port_send : (a : NamedLft) (R C : RattleType) (m : Ghosts C.Denot) → IsSync R → IsSend C
    → IsSend (SessionPort.the_row a R C (meanings C m) m)
port_send a R C m r s =
    let desk = desk_sync C m s in
    declared_send (SessionPort.the_type a R C (meanings C m) m) (
      search (sendable, crosses, r),
      (
        as_row_send (shr_ref_field a (SharedDesk.the_row C m) tt) (search (sendable, desk)),
        (console_pass_send C m s, tt),
      ),
    )

-- the pass of the loop
pub loop_pass_send : (C : RattleType) (m : Ghosts C.Denot) → IsSend C → IsSend (LoopPass.the_row C (meanings C m) m)
loop_pass_send C m s = declared_send (LoopPass.the_type C (meanings C m) m) (console_pass_send C m s, tt)

-- and its console
pub loop_end_send : (a : NamedLft) (R C : RattleType) (m : Ghosts C.Denot) → IsSync R → IsSend C
    → IsSend (LoopEnd.the_row a R C (meanings C m) m)
loop_end_send a R C m r s =
    let desk = desk_sync C m s in
    declared_send (LoopEnd.the_type a R C (meanings C m) m) (
      search (sendable, crosses, r),
      (as_row_send (shr_ref_field a (SharedDesk.the_row C m) tt) (search (sendable, desk)), (loop_pass_send C m s, tt)),
    )
