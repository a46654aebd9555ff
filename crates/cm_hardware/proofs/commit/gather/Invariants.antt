use Rattle.std.proofs.Common.{◌≡◌, ◌≤◌, ◌++◌, drop, length, vec_capacity}
use Rattle.cm_hardware.specs.Committed.{numbers_from}
use Rattle.cm_hardware.proofs.commit.gather.Given as goal

-- those so far, and those that are left, are all; and they fit
abbrev pub invariant-loop-number : goal.invariant-loop-number
invariant-loop-number l = record {
  items : l.claims.items ++ numbers_from l.number (drop l.number l.loans) ≡ numbers_from 0 l.loans;
  count : length l.claims.items ≤ l.number;
  room : vec_capacity l.fn.claims ≤ vec_capacity l.claims;
}
