use Rattle.rows_desk.specs.Shared.{IsLoopOf}
use Rattle.rows_desk.proofs.shared.looping.begin_again.Given as goal

-- the loop stands as is said
abbrev pub invariant-loop : goal.invariant-loop
invariant-loop g l =
    IsLoopOf l.desk.lock l.desk.at_first.value l.looping.pass.pass l.looping.stand l.looping.flight
