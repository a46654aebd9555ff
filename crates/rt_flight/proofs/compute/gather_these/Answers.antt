use Rattle.std.proofs.Common.{List, map, sym, ap, ◌∙◌}
use Rattle.cm_storage.specs.declared.record.FailedPart.{FailedPart}
use Rattle.rt_flight.specs.Cells.{cell_read}
use Rattle.rt_flight.specs.Progress.{failed_in_room}
use Rattle.rt_flight.proofs.compute.gather_these.Goals as goal

pub gather_all-requires-clause-timely : goal.gather_all-requires-clause-timely
gather_all-requires-clause-timely g c =
    let time = c.requires.timely in record { some_time = time.some_time; no_longer = time.no_longer; time = time.time }

pub gather_all-requires-clause-can : goal.gather_all-requires-clause-can
gather_all-requires-clause-can g c = c.requires.can

-- the failures are those that are told in the room
pub returns : goal.returns
returns g c =
    let k = c.args.context.now in
    c.gather_all.ensures
    ∙ ap (λ (failed : List FailedPart). map (cell_read (record {
      number = c.args.number;
      period_us = k.robot.period_us;
      placed = k.robot.places;
      related = k.robot.relations;
      failed = failed;
    }) k.robot.hardware.loans) c.args.cells.now) (c.as_slice.ensures ∙ sym (ap failed_in_room c.in-Some.is))
