use Rattle.std.proofs.Common.{◌≡◌, true, false, None, All, ◌++◌}
use Rattle.turn_lock.specs.Passes.{view, IsReady}
use Rattle.turn_lock.specs.Calls.Finish.{Covers}
use Rattle.turn_lock.proofs.lock.TurnLock.join_all.Given as goal

abbrev pub invariant-loop-pass : goal.invariant-loop-pass
invariant-loop-pass g l = record {
  table : l.seat.table_id ≡ l.self.table.shared.table_id;
  alive : l.seat.me.0.alive ≡ true;
  no_ticket : l.seat.me.0.number ≡ None;
  waits : l.seat.me.0.holds ≡ false;
  footing : l.seat.me.0.footing ≡ (view l.fn.first).footing;
  first : Covers g.K.Kept.caller l.seat.me.0 (view l.fn.first);
  so_far : All (λ p. Covers g.K.Kept.caller l.seat.me.0 (view p)) l.yielded;
  to_come : All (IsReady l.self) l.pass-iterator.rest.items;
  cut : l.yielded ++ l.pass-iterator.rest.items ≡ l.fn.others.items;
}
