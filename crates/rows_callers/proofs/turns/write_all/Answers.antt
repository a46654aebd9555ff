use Rattle.std.proofs.Common.{List, [], ◌∷◌}
use mir.Syntax.{Sym}
use denote.Exit as exit
use denote.RattleType.{RattleType}
use denote.Ref.{ShrRef, NamedLft}
use denote.Struct.Field.{row_field}
use denote.Struct.Tuple.{TupleAt, type_at}
use denote.Param.Send.{IsSend, IsSync, sendable, shr_sync, param_sync, arg_sync}
use denote.Param.SendFields.{as_row_sync, declared_sync}
use Rattle.std.proofs.Crossing.{crosses}
use Rattle.turn_lock.specs.contracts.lock.TurnLock as Lock
use Rattle.rows_callers.specs.contracts.turns.Any as Any
use Rattle.rows_callers.specs.contracts.turns.Book as Book
use Rattle.rows_callers.specs.contracts.turns.BookKept.TheImpl.{ghosts}
use Rattle.rows_callers.specs.contracts.turns.Line as Line
use Rattle.rows_callers.specs.contracts.turns.Work as Work
use Rattle.turn_lock.proofs.Crossing.{pass_send, lock_sync}
use Rattle.rows_callers.proofs.turns.write_all.Goals as goal

book_send : IsSend Book.the_row
book_send = search (sendable, crosses) depth 40

shared : IsSync (Lock.the_row Book.the_row Line.the_row Any.the_row ghosts)
shared = lock_sync Book.the_row Line.the_row Any.the_row ghosts book_send

work_sync : IsSync Work.the_row
work_sync = search (sendable, crosses) depth 40

-- what a closure captures of its thread's calls: the runtime, the lock and the work
captured : (R : RattleType) → IsSync R → (ν : Sym) (a b c : NamedLft)
    → IsSync (TupleAt ν
    (ShrRef a.mir a.lft R ∷ ShrRef b.mir b.lft (Lock.the_row Book.the_row Line.the_row Any.the_row ghosts)
    ∷ ShrRef c.mir c.lft Work.the_row ∷ []))
captured R s ν a b c =
    let lock = Lock.the_row Book.the_row Line.the_row Any.the_row ghosts in
    let types : List RattleType =
    ShrRef a.mir a.lft R ∷ ShrRef b.mir b.lft lock ∷ ShrRef c.mir c.lft Work.the_row ∷ [] in
    declared_sync (type_at ν types) (
      as_row_sync (row_field (ShrRef a.mir a.lft R)) (shr_sync a.mir a.lft R s),
      (
        as_row_sync (row_field (ShrRef b.mir b.lft lock)) (shr_sync b.mir b.lft lock shared),
        (as_row_sync (row_field (ShrRef c.mir c.lft Work.the_row)) (shr_sync c.mir c.lft Work.the_row work_sync), tt),
      ),
    )

pub map_vec-requires-send-J : goal.map_vec-requires-send-J
map_vec-requires-send-J g c κs within = search (sendable, crosses, pass_send) depth 40

pub map_vec-requires-send-X : goal.map_vec-requires-send-X
map_vec-requires-send-X g c κs within = search (sendable, crosses, pass_send) depth 40

pub map_vec-requires-sync-F : goal.map_vec-requires-sync-F
map_vec-requires-sync-F g c κs within = param_sync 4 _ (arg_sync _ exit.no _ (captured _ c.type_bounds.sync-R _ _ _ _))
