use Rattle.std.proofs.Common.{◌≡◌}
use Rattle.turn_lock.proofs.lock.TurnLock.look_long.Given as goal

abbrev pub invariant-loop : goal.invariant-loop
invariant-loop g l = record {
  same_table : l.seat.table_id ≡ l.fn.seat.table_id;
  same : l.seat.me ≡ l.fn.seat.me;
}
