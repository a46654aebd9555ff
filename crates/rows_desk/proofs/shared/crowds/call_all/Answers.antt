use Rattle.std.proofs.Common.{List, [], ◌∷◌}
use mir.Syntax.{Sym}
use denote.Builtin.{u32}
use denote.Exit as exit
use denote.Param.{param}
use denote.RattleType.{RattleType}
use denote.Ref.{ShrRef, NamedLft}
use denote.Struct.Field.{row_field}
use denote.Struct.Tuple.{TupleAt, type_at}
use denote.Param.Send.{IsSend, IsSync, sendable, shr_sync, param_send, param_sync, arg_send, arg_sync}
use denote.Param.SendFields.{as_row_sync, declared_sync}
use Rattle.std.proofs.Crossing as heap
use Rattle.std.proofs.Crossing.{crosses}
use Rattle.std.specs.contracts.alloc.Global as Heap
use Rattle.ctl_trait.specs.declared.controller.Controller.{Ghosts}
use Rattle.shared_desk.specs.contracts.shared.SharedDesk as SharedDesk
use Rattle.shared_desk.proofs.Crossing.{console_pass_send, desk_sync}
use Rattle.rows_desk.specs.contracts.shared.crowds.Arrivals as Arrivals
use Rattle.rows_desk.proofs.shared.crowds.call_all.Goals as goal

arrivals_sync : IsSync Arrivals.the_row
arrivals_sync = search (sendable, crosses) depth 40

-- what the closure captures: the runtime, the allocator, the desk, a number and who has come
captured : (R C : RattleType) (m : Ghosts C.Denot) → IsSync R → IsSend C → (ν : Sym) (a b d e f : NamedLft)
    → IsSync (TupleAt ν
    (ShrRef a.mir a.lft R ∷ ShrRef b.mir b.lft Heap.the_row ∷ ShrRef d.mir d.lft (SharedDesk.the_row C m)
    ∷ ShrRef e.mir e.lft u32 ∷ ShrRef f.mir f.lft Arrivals.the_row ∷ []))
captured R C m r s ν a b d e f =
    let desk = SharedDesk.the_row C m in
    let types : List RattleType =
    ShrRef a.mir a.lft R ∷ ShrRef b.mir b.lft Heap.the_row ∷ ShrRef d.mir d.lft desk ∷ ShrRef e.mir e.lft u32
    ∷ ShrRef f.mir f.lft Arrivals.the_row ∷ [] in
    declared_sync (type_at ν types) (
      as_row_sync (row_field (ShrRef a.mir a.lft R)) (shr_sync a.mir a.lft R r),
      (
        as_row_sync (row_field (ShrRef b.mir b.lft Heap.the_row)) (shr_sync b.mir b.lft Heap.the_row heap.sync),
        (
          as_row_sync (row_field (ShrRef d.mir d.lft desk)) (shr_sync d.mir d.lft desk (desk_sync C m s)),
          (
            as_row_sync (row_field (ShrRef e.mir e.lft u32)) (shr_sync e.mir e.lft u32 (search sendable)),
            (
              as_row_sync (row_field (ShrRef f.mir f.lft Arrivals.the_row))
                  (shr_sync f.mir f.lft Arrivals.the_row arrivals_sync),
              tt,
            ),
          ),
        ),
      ),
    )

pub map_vec-requires-send-J : goal.map_vec-requires-send-J
map_vec-requires-send-J g c κs within =
    param_send 1 _
    (arg_send _ exit.no _
    (console_pass_send (param 1 g.row.C) g.C.Controller (search (sendable, c.type_bounds.send-C))))

pub map_vec-requires-send-X : goal.map_vec-requires-send-X
map_vec-requires-send-X g c κs within =
    param_send 2 _
    (arg_send _ exit.no _
    (console_pass_send (param 1 g.row.C) g.C.Controller (search (sendable, c.type_bounds.send-C))))

pub map_vec-requires-sync-F : goal.map_vec-requires-sync-F
map_vec-requires-sync-F g c κs within =
    param_sync 4 _
    (arg_sync _ exit.no _
    (captured _ (param 1 g.row.C) g.C.Controller c.type_bounds.sync-R (search (sendable, c.type_bounds.send-C)) _ _ _ _
    _ _))
