-- What the threads of callers share may cross, where boxes may and the handle may be shared.
use Rattle.std.proofs.Common.{List, [], ◌∷◌}
use mir.Syntax.{Sym}
use denote.RattleType.{RattleType}
use denote.Ref.{ShrRef, NamedLft}
use denote.Struct.Field.{row_field}
use denote.Struct.Tuple.{TupleAt, type_at}
use denote.Param.Send.{IsSend, IsSync, sendable, shr_sync}
use denote.Param.SendFields.{as_row_sync, declared_sync}
use Rattle.std.proofs.Crossing as heap
use Rattle.std.proofs.Crossing.{crosses}
use Rattle.std.specs.contracts.alloc.Global as Heap
use Rattle.std.specs.contracts.boxed.Box as Box
use Rattle.std.specs.contracts.impls.GlobalAllocator.TheImpl.{ghosts as heap_ghosts}
use Rattle.std.specs.contracts.sync.Mutex as Mutex
use Rattle.ctl_trait.specs.declared.controller.Controller.{Ghosts}
use Rattle.cm_desk.specs.contracts.desk.Desk as Desk
use Rattle.cm_desk.proofs.Crossing.{desk_send}
use Rattle.shared_desk.specs.contracts.shared.SharedDesk as SharedDesk
use Rattle.shared_desk.proofs.Crossing.{desk_sync}
use Rattle.cm_bench.specs.contracts.callers.Calls as Calls

calls_sync : IsSync Calls.the_row
calls_sync = search (sendable, crosses) depth 40

-- what the mutex keeps
abbrev boxed_desk : (C : RattleType) → Ghosts C.Denot → RattleType
boxed_desk C m = Box.the_row (Desk.the_row C m) Heap.the_row heap_ghosts

mutex_sync : (C : RattleType) (m : Ghosts C.Denot) → IsSend C → IsSync (Mutex.the_row (boxed_desk C m))
mutex_sync C m s =
    let boxed : IsSend (boxed_desk C m) = heap.Box-send (Desk.the_row C m) (desk_send C m s) in search (crosses, boxed)

-- callers with passes share the runtime, the desk, and what they call
pub with_passes : (R C : RattleType) (m : Ghosts C.Denot) → IsSync R → IsSend C → (ν : Sym) (a b c : NamedLft)
    → IsSync (TupleAt ν
    (ShrRef a.mir a.lft R ∷ ShrRef b.mir b.lft (SharedDesk.the_row C m) ∷ ShrRef c.mir c.lft Calls.the_row ∷ []))
with_passes R C m r s ν a b c =
    let desk = SharedDesk.the_row C m in
    let types : List RattleType =
    ShrRef a.mir a.lft R ∷ ShrRef b.mir b.lft desk ∷ ShrRef c.mir c.lft Calls.the_row ∷ [] in
    declared_sync (type_at ν types) (
      as_row_sync (row_field (ShrRef a.mir a.lft R)) (shr_sync a.mir a.lft R r),
      (
        as_row_sync (row_field (ShrRef b.mir b.lft desk)) (shr_sync b.mir b.lft desk (desk_sync C m s)),
        (
          as_row_sync (row_field (ShrRef c.mir c.lft Calls.the_row))
              (shr_sync c.mir c.lft Calls.the_row calls_sync),
          tt,
        ),
      ),
    )

-- those at a mutex share the allocator, too
pub at_mutex : (R C : RattleType) (m : Ghosts C.Denot) → IsSync R → IsSend C → (ν : Sym) (a b c d : NamedLft)
    → IsSync (TupleAt ν
    (ShrRef a.mir a.lft R ∷ ShrRef b.mir b.lft Heap.the_row ∷ ShrRef c.mir c.lft (Mutex.the_row (boxed_desk C m))
    ∷ ShrRef d.mir d.lft Calls.the_row ∷ []))
at_mutex R C m r s ν a b c d =
    let desk = Mutex.the_row (boxed_desk C m) in
    let types : List RattleType =
    ShrRef a.mir a.lft R ∷ ShrRef b.mir b.lft Heap.the_row ∷ ShrRef c.mir c.lft desk
    ∷ ShrRef d.mir d.lft Calls.the_row ∷ [] in
    declared_sync (type_at ν types) (
      as_row_sync (row_field (ShrRef a.mir a.lft R)) (shr_sync a.mir a.lft R r),
      (
        as_row_sync (row_field (ShrRef b.mir b.lft Heap.the_row)) (shr_sync b.mir b.lft Heap.the_row heap.sync),
        (
          as_row_sync (row_field (ShrRef c.mir c.lft desk)) (shr_sync c.mir c.lft desk (mutex_sync C m s)),
          (
            as_row_sync (row_field (ShrRef d.mir d.lft Calls.the_row))
                (shr_sync d.mir d.lft Calls.the_row calls_sync),
            tt,
          ),
        ),
      ),
    )
