-- A flight may cross threads where its boxes may.
use denote.Hole.{as_row}
use denote.Param.Send.{IsSend, sendable, view_send}
use denote.Param.SendFields.{as_row_send, declared_send}
use denote.RattleType.{RattleType}
use Rattle.std.proofs.Crossing as heap
use Rattle.std.proofs.Crossing.{crosses}
use Rattle.std.specs.contracts.alloc.Global as Heap
use Rattle.std.specs.contracts.boxed.Box as Box
use Rattle.std.specs.contracts.impls.GlobalAllocator.TheImpl.{ghosts as heap_ghosts}
use Rattle.std.specs.contracts.snapshot.Snapshot as Snapshot
use Rattle.std.specs.contracts.vec.Vec as Vec
use Rattle.ctl_trait.specs.declared.controller.Controller.{Ghosts}
use Rattle.rt_flight.specs.contracts.cell.Cell as Cell
use Rattle.rt_flight.proofs.cell.Cell.TheSendSync as cell
use Rattle.rt_flight.specs.contracts.context.CycleContext as CycleContext
use Rattle.rt_flight.proofs.context.CycleContext.TheSendSync as context
use Rattle.rt_flight.specs.contracts.flight.Flight as Flight
use Rattle.rt_flight.specs.contracts.flight.Flight.TheInside as FlightInside
use Rattle.rt_flight.specs.contracts.flight.Stage as Stage

snapshot_send : (T : RattleType) → IsSend (Snapshot.the_row T)
snapshot_send T = search (sendable, crosses) depth 40

seen_send : (T : RattleType) → IsSend (as_row (Snapshot.the_field T))
seen_send T = as_row_send (Snapshot.the_field T) (snapshot_send T)

abbrev cells : (C : RattleType) → Ghosts C.Denot → RattleType
cells C m = Vec.the_row (Cell.the_row C m) Heap.the_row heap_ghosts

stage_send : (C : RattleType) (m : Ghosts C.Denot) → IsSend (Stage.the_row C m)
stage_send C m = declared_send (Stage.the_type C m) (
  search sendable,
  (
    search sendable,
    (
      search sendable,
      (
        search sendable,
        (
          search sendable,
          (search sendable, (seen_send (cells C m), (seen_send CycleContext.the_row, (seen_send (cells C m), tt)))),
        ),
      ),
    ),
  ),
)

pub flight_send : (C : RattleType) (m : Ghosts C.Denot) → IsSend C → IsSend (Flight.the_row C m)
flight_send C m s = view_send _ _ _ _ _ (declared_send (FlightInside.the_type C m) (
  search sendable,
  (
    as_row_send (Vec.the_field (Cell.the_row C m) Heap.the_row heap_ghosts)
        (heap.Vec-send (Cell.the_row C m) (cell.the_send C m s)),
    (
      as_row_send (Box.the_field CycleContext.the_row Heap.the_row heap_ghosts)
          (heap.Box-send CycleContext.the_row context.the_send),
      (stage_send C m, tt),
    ),
  ),
))
