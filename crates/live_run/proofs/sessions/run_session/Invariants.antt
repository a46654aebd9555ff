use Rattle.live_run.specs.Sessions.{GoesOn}
use Rattle.live_run.proofs.sessions.run_session.Given as goal

abbrev pub invariant-loop : goal.invariant-loop
invariant-loop g l = GoesOn g.P.Port.footing g.P.Port.tells l.fn.pair l.pair
