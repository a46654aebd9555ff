-- The loop's console over a desk may cross threads where boxes may.
use denote.RattleType.{RattleType}
use denote.Param.Send.{IsSend, sendable}
use denote.Param.SendFields.{declared_send}
use Rattle.ctl_trait.specs.declared.controller.Controller.{Ghosts}
use Rattle.cm_desk.proofs.Crossing.{desk_send}
use Rattle.desk_turns.specs.contracts.desk_loop.DeskLoop as DeskLoop

pub desk_loop_send : (C : RattleType) (m : Ghosts C.Denot) → IsSend C → IsSend (DeskLoop.the_row C m)
desk_loop_send C m s = declared_send (DeskLoop.the_type C m) (search sendable, (desk_send C m s, tt))
