use Rattle.desk_turns.proofs.LoopConsoleLemmas.{can_begin_there, begins_there}
use Rattle.cm_desk.proofs.BegunLemmas.{out_at_hand}
use Rattle.desk_turns.proofs.desk_loop.DeskLoopLoopPort.begin.Goals as goal

pub begin-requires : goal.begin-requires
begin-requires g c = record { can = can_begin_there c.args.self.now.desk c.requires }

-- a cycle began, and its flight is out
pub returns-clause-begun : goal.returns-clause-begun
returns-clause-begun g c = (
  begins_there c.args.self.now.desk c.begin.new.self c.is_right.ensures c.in_ok-flight.ensures.made,
  out_at_hand c.begin.new.self c.in_ok-flight.flight c.in_ok-flight.ensures.flight,
  c.in_ok-flight.ensures.flight.not_yet.1,
)
