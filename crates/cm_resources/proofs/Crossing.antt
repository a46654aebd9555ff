-- What a cycle works on may cross threads.
use denote.RattleType.{RattleType}
use denote.Builtin.{u32}
use denote.Hole.{as_row}
use denote.Param.Send.{IsSend, sendable}
use denote.Param.SendFields.{declared_send, as_row_send}
use Rattle.std.proofs.Crossing as heap
use Rattle.std.proofs.Crossing.{crosses}
use Rattle.std.specs.contracts.alloc.Global as Heap
use Rattle.std.specs.contracts.impls.GlobalAllocator.TheImpl.{ghosts as heap_ghosts}
use Rattle.std.specs.contracts.vec.Vec as Vec
use Rattle.std.proofs.option.Option.TheSendSync as option
use Rattle.std.specs.contracts.snapshot.Snapshot as Snapshot
use Rattle.rt_flight.specs.contracts.robot.Robot as Robot
use Rattle.cm_model.specs.contracts.member.Member as Member
use Rattle.std.specs.contracts.boxed.Box as Box
use Rattle.rt_flight.specs.contracts.context.CycleContext as CycleContext
use Rattle.rt_flight.proofs.context.CycleContext.TheSendSync as context
use Rattle.stop_plan.specs.contracts.ending.Ending as Ending
use Rattle.cm_slots.specs.contracts.mails.MailAloft as MailAloft
use Rattle.cm_slots.proofs.room.Room.TheSendSync as room
use Rattle.cm_hardware.specs.contracts.lists.Lists as Lists
use Rattle.cm_hardware.proofs.lists.Lists.TheSendSync as lists
use Rattle.cm_resources.proofs.resources.CycleBuffers.TheSendSync as buffers
use Rattle.cm_resources.proofs.needs.HardwareSize.TheSendSync as size
use Rattle.cm_resources.specs.contracts.resources.CycleResources as CycleResources

pub snapshot_send : (T : RattleType) → IsSend (Snapshot.the_row T)
snapshot_send T = search (sendable, crosses) depth 40

pub vec_send : (T : RattleType) → IsSend T → IsSend (as_row (Vec.the_field T Heap.the_row heap_ghosts))
vec_send T s = as_row_send (Vec.the_field T Heap.the_row heap_ghosts) (heap.Vec-send T s)

pub seen_send : (T : RattleType) → IsSend (as_row (Snapshot.the_field T))
seen_send T = as_row_send (Snapshot.the_field T) (snapshot_send T)

pub resources_send : IsSend CycleResources.the_row
resources_send = declared_send CycleResources.the_type (
  option.the_send (Box.the_row CycleContext.the_row Heap.the_row heap_ghosts)
      (heap.Box-send CycleContext.the_row context.the_send),
  (
    seen_send Robot.the_row,
    (
      seen_send Ending.the_row,
      (
        seen_send (Vec.the_row MailAloft.the_row Heap.the_row heap_ghosts),
        (
          seen_send (Vec.the_row Member.the_row Heap.the_row heap_ghosts),
          (
            seen_send (Vec.the_row u32 Heap.the_row heap_ghosts),
            (
              buffers.the_send,
              (lists.the_send, (search sendable, (seen_send Lists.the_row, (size.the_send, (room.the_send, tt))))),
            ),
          ),
        ),
      ),
    ),
  ),
)
