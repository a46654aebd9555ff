use Rattle.std.proofs.Common.{◌≡◌, ◌+◌, length, Some}
use Rattle.turn_lock.specs.Passes.{view, IsSamePass}
use Rattle.turn_lock.specs.Calls.Make.{IsFresh, AreFresh}
use Rattle.turn_lock.proofs.lock.TurnLock.deal_others.Given as goal

abbrev pub invariant-loop-number : goal.invariant-loop-number
invariant-loop-number g l = record {
  same : IsSamePass l.fn.first l.first;
  fresh : IsFresh (view l.fn.first).footing (view l.first);
  keeps_count : (view l.first).given ≡ Some l.number;
  count : length l.passes.items + 1 ≡ l.number;
  others : AreFresh l.self (view l.fn.first).footing 1 (length l.passes.items) l.passes.items;
}
