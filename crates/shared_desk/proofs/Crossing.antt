-- A shared desk and its passes may cross threads where its boxes may.
use denote.RattleType.{RattleType}
use denote.Param.Send.{IsSend, IsSync, sendable, view_send}
use denote.Param.SendFields.{declared_send, declared_sync, as_row_send, as_row_sync}
use Rattle.std.proofs.Crossing as heap
use Rattle.std.proofs.Crossing.{crosses}
use Rattle.std.specs.contracts.alloc.Global as Heap
use Rattle.std.specs.contracts.boxed.Box as Box
use Rattle.std.specs.contracts.impls.GlobalAllocator.TheImpl.{ghosts as heap_ghosts}
use Rattle.std.specs.contracts.snapshot.Snapshot as Snapshot
use Rattle.ctl_trait.specs.declared.controller.Controller.{Ghosts}
use Rattle.cm_desk.specs.contracts.desk.Desk as Desk
use Rattle.cm_desk.proofs.Crossing.{desk_send}
use Rattle.cm_model.specs.contracts.entry.Entry as Entry
use Rattle.turn_lock.specs.declared.kept.Kept.{Ghosts as LockGhosts}
use Rattle.turn_lock.specs.contracts.pass.TurnPass as Pass
use Rattle.turn_lock.proofs.Crossing.{pass_send, lock_sync}
use Rattle.shared_desk.specs.contracts.kept.KeptDesk as Kept
use Rattle.shared_desk.specs.contracts.kept.KeptDesk.TheInside as KeptInside
use Rattle.shared_desk.specs.contracts.kept.KeptDeskKept.TheImpl.{ghosts, no_dict}
use Rattle.shared_desk.specs.contracts.kept.Opening as Opening
use Rattle.shared_desk.specs.contracts.shared.SharedDesk as SharedDesk

pub kept_send : (C : RattleType) (m : Ghosts C.Denot) → IsSend C → IsSend (Kept.the_row C m)
kept_send C m s =
    view_send _ _ _ _ _
    (declared_send (KeptInside.the_type C m) (
      as_row_send (Box.the_field (Desk.the_row C m) Heap.the_row heap_ghosts)
          (heap.Box-send (Desk.the_row C m) (desk_send C m s)),
      tt,
    ))

-- the meanings by which the lock speaks of a kept desk
abbrev pub meanings : (C : RattleType) (m : Ghosts C.Denot)
    → LockGhosts (Kept.the_row C m).Denot Entry.the_row.Denot Opening.the_row.Denot
meanings C m = ghosts C m no_dict no_dict

-- a pass goes to the thread of its caller
pub console_pass_send : (C : RattleType) (m : Ghosts C.Denot) → IsSend C
    → IsSend (Pass.the_row (Kept.the_row C m) Entry.the_row Opening.the_row (meanings C m))
console_pass_send C m s = pass_send (Kept.the_row C m) Entry.the_row Opening.the_row (meanings C m) (kept_send C m s)

snapshot_sync : (T : RattleType) → IsSync (Snapshot.the_row T)
snapshot_sync T = search (sendable, crosses) depth 40

-- and the desk is shared among threads
pub desk_sync : (C : RattleType) (m : Ghosts C.Denot) → IsSend C → IsSync (SharedDesk.the_row C m)
desk_sync C m s = declared_sync (SharedDesk.the_type C m) (
  heap.sync,
  (
    lock_sync (Kept.the_row C m) Entry.the_row Opening.the_row (meanings C m) (kept_send C m s),
    (as_row_sync (Snapshot.the_field (Kept.the_row C m)) (snapshot_sync (Kept.the_row C m)), tt),
  ),
)
