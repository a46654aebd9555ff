use Rattle.std.proofs.Common.{List, Option, Some, length, sym, ap, subst, ◌∙◌}
use Rattle.std.specs.Prelude.{vec_len, vec_capacity, IsSomeAnd}
use Rattle.cm_storage.specs.Ran.{Ran}
use Rattle.cm_storage.specs.declared.record_room.RecordRoom.{RecordRoom}
use Rattle.rt_flight.specs.Calls.Cells.{CanPutAll, LeavesPut}
use Rattle.rt_flight.specs.Cells.{all_put, all_outs, all_numbers, flying}
use Rattle.rt_flight.specs.Progress.{rans_in_room}
use Rattle.rt_flight.specs.UnderWay.{TellsBut}
use Rattle.rt_flight.specs.declared.robot.Robot.{Robot}
use Rattle.rt_flight.proofs.compute.scatter_these.Goals as goal

pub scatter_in-requires : goal.scatter_in-requires
scatter_in-requires g c =
    let k = c.args.context.now in
    subst (λ (o : Option RecordRoom). IsSomeAnd o
    (λ r. CanPutAll k.robot.places (length k.robot.hardware.loans) c.args.cells.now r.ran (vec_len k.erred)
    (vec_capacity k.erred))) c.in-Some.is c.requires

pub returns : goal.returns
returns g c =
    let k = c.args.context.now in
    let put = c.scatter_in.ensures.put in
    record {
      put = put.put;
      flying = c.scatter_in.ensures.flying
          ∙ ap (λ (rans : List Ran). all_put k.robot.places c.args.cells.now
          (flying k.robot.hardware rans k.erred.items)) (sym (ap rans_in_room c.in-Some.is));
      context = ap
          (λ (x : Robot). record k { robot = x; room = Some c.scatter_in.new.room; erred = c.scatter_in.new.erred })
          put.robot;
      room = subst
          (λ (o : Option RecordRoom). IsSomeAnd o
          (λ before. TellsBut before c.scatter_in.new.room
          × LeavesPut (length c.args.cells.now) (all_outs c.args.cells.now)
          (all_numbers c.args.cells.now) (length k.robot.hardware.loans) (length c.scatter_in.new.robot.hardware.loans)
          before.ran c.scatter_in.new.room.ran (vec_len k.erred)
          (vec_len c.scatter_in.new.erred) (vec_capacity k.erred) (vec_capacity c.scatter_in.new.erred)))
          (sym c.in-Some.is) (put.told, c.scatter_in.ensures.leaves);
    }
