use Rattle.shared_desk.specs.Passes.{IsSessionPass}
use Rattle.rows_desk.proofs.shared.crowds.call_often.Given as goal

-- it is still the pass of a session
abbrev pub invariant-loop-turn : goal.invariant-loop-turn
invariant-loop-turn g l = IsSessionPass l.desk.lock l.desk.at_first.value l.pass
