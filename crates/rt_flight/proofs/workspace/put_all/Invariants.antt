use Rattle.std.proofs.Common.{◌≡◌, length, drop}
use Rattle.cm_slots.specs.Updates.{put_on}
use Rattle.rt_flight.proofs.workspace.put_all.Given as goal

-- to set the outputs that are left is to set all
abbrev pub invariant-loop-i : goal.invariant-loop-i
invariant-loop-i l = record {
  set : record l.hardware { loans = put_on l.hardware.loans (drop l.i l.claims) (drop l.i l.outs) }
      ≡ record l.fn.hardware { loans = put_on l.fn.hardware.loans l.claims l.outs };
  places : length l.hardware.loans ≡ length l.fn.hardware.loans;
}
