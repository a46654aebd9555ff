use Rattle.std.proofs.Common.{◌≡◌, [], map, take, drop}
use Rattle.cm_model.specs.Scheduled.{settle_from}
use Rattle.cm_desk.specs.Desk.{now_of, IsAloftAlike}
use Rattle.console_session.specs.Sessions.{left_of}
use Rattle.desk_turns.specs.Jobs.{AreSessionsOf}
use Rattle.desk_turns.proofs.jobs.settle_each.Given as goal

-- to settle the sessions from here on, from what is made, is to settle all, over a desk of the same opening
abbrev pub invariant-loop-who : goal.invariant-loop-who
invariant-loop-who g l = record {
  settled : settle_from l.who (map left_of (drop l.who l.sessions)) (now_of l.desk) l.desk.made
      (map left_of (take l.who l.sessions))
      ≡ settle_from 0 (map left_of l.fn.sessions) (now_of l.fn.desk) l.fn.desk.made [];
  opening : l.desk.opening ≡ l.fn.desk.opening;
  aloft : IsAloftAlike l.fn.desk l.desk;
  these : AreSessionsOf l.desk l.sessions;
}
