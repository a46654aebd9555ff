use Rattle.std.proofs.Common.{◌≡◌}
use Rattle.cm_model.specs.Scheduled.{settle}
use Rattle.cm_model.proofs.AdvanceLemmas.{entries_left}
use Rattle.cm_desk.specs.Desk.{IsAloftAlike}
use Rattle.console_session.specs.Sessions.{left_of}
use Rattle.desk_turns.specs.Jobs.{at}
use Rattle.desk_turns.proofs.jobs.settle.Given as goal

-- to settle from here is to settle from the start, over the same desk with the same opening
abbrev pub invariant-loop : goal.invariant-loop
invariant-loop g l = record {
  lent : l.port.desk.ghost_name ≡ l.initial.port.desk.ghost_name;
  who : l.port.who ≡ l.fn.session.who;
  number : l.session.who ≡ l.fn.session.who;
  settled : settle l.fn.session.who (at l.port.desk.now (left_of l.session))
      ≡ settle l.fn.session.who (at l.fn.desk (left_of l.fn.session));
  opening : l.port.desk.now.opening ≡ l.fn.desk.opening;
  aloft : IsAloftAlike l.fn.desk l.port.desk.now;
}

abbrev pub decreases-loop : goal.decreases-loop
decreases-loop g l = entries_left l.session.ticket (left_of l.session).lines
