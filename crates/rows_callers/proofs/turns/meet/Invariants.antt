use Rattle.std.proofs.Common.{◌≡◌}
use Rattle.turn_lock.specs.Passes.{IsReady}
use Rattle.rows_callers.proofs.turns.meet.Given as goal

abbrev pub invariant-loop : goal.invariant-loop
invariant-loop g l = record {
  ready : IsReady l.lock l.pass;
  number : l.pass.number ≡ l.fn.pass.number;
}
