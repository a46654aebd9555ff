-- A lock and its passes may cross threads where the kept value may.
use denote.RattleType.{RattleType}
use denote.Param.Send.{IsSend, IsSync, sendable}
use denote.Param.SendFields.{declared_send, declared_sync, as_row_send, as_row_sync}
use Rattle.std.proofs.Crossing as heap
use Rattle.std.proofs.Crossing.{crosses}
use Rattle.std.specs.contracts.alloc.Global as Heap
use Rattle.std.specs.contracts.impls.GlobalAllocator.TheImpl.{ghosts as heap_ghosts}
use Rattle.turn_lock.specs.declared.kept.Kept.{Ghosts}
use Rattle.turn_lock.specs.contracts.table.TurnsTableRuleSpotSeatViewEntryGroundTerms.TheImpl.{ghosts, no_dict}
use Rattle.turn_lock.specs.contracts.table.Spot as Spot
use Rattle.turn_lock.specs.contracts.table.Terms as Terms
use Rattle.turn_lock.specs.contracts.table.Turns as Turns
use Rattle.turn_lock.specs.contracts.view.SeatView as SeatView
use Rattle.turn_lock.specs.contracts.pass.TurnPass as Pass
use Rattle.turn_lock.specs.contracts.lock.TurnLock as Lock
use Rattle.atomic_table.specs.contracts.shared.Seat as Seat
use Rattle.atomic_table.proofs.shared.Seat.TheSendSync as seat
use Rattle.atomic_table.specs.contracts.owned.Table as Table
use Rattle.atomic_table.proofs.owned.Table.TheSendSync as table

pub spot_send : (K : RattleType) → IsSend K → IsSend (Spot.the_row K)
spot_send K s = search (sendable, crosses) depth 40

-- a pass goes to the thread of its caller
pub pass_send : (K E G : RattleType) (g : Ghosts K.Denot E.Denot G.Denot) → IsSend K → IsSend (Pass.the_row K E G g)
pass_send K E G g s =
    let spot : IsSend (Spot.the_row K) = spot_send K s in
    declared_send (Pass.the_type K E G g) (
      search sendable,
      (
        as_row_send (Seat.the_field (Spot.the_row K) (SeatView.the_row E G))
            (seat.the_send (Spot.the_row K) (SeatView.the_row E G) spot),
        tt,
      ),
    )

-- and the lock is shared among threads
pub lock_sync : (K E G : RattleType) (g : Ghosts K.Denot E.Denot G.Denot) → IsSend K → IsSync (Lock.the_row K E G g)
lock_sync K E G g s =
    let spot : IsSend (Spot.the_row K) = spot_send K s in
    declared_sync (Lock.the_type K E G g) (
      as_row_sync (Table.the_field (Spot.the_row K) (SeatView.the_row E G) (Terms.the_row K) (Turns.the_row K)
          Heap.the_row (ghosts K E G g no_dict) heap_ghosts)
          (table.the_field_sync (Spot.the_row K) (SeatView.the_row E G) (Terms.the_row K) (Turns.the_row K) Heap.the_row
          (ghosts K E G g no_dict) heap_ghosts spot heap.send heap.sync heap.frees),
      tt,
    )
