use Rattle.std.proofs.Common.{◌≡◌}
use Rattle.turn_lock.specs.Passes.{IsReady}
use Rattle.rows_callers.proofs.turns.write_lines.Given as goal

abbrev pub invariant-loop-turn : goal.invariant-loop-turn
invariant-loop-turn g l = record {
  ready : IsReady l.lock l.pass;
  number : l.pass.number ≡ l.fn.pass.number;
}
