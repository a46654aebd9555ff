use Rattle.std.proofs.Common.{◌≡◌, ◌+◌, ◌≤◌, ◌++◌, length, drop, vec_len, vec_capacity}
use Rattle.cm_storage.proofs.ran_room.push_numbers.Given as goal

-- what is there and what is left are all, and what is left has room
abbrev pub invariant-loop-number : goal.invariant-loop-number
invariant-loop-number l = record {
  items : l.list.items ++ drop l.number-index l.numbers ≡ l.fn.list.items ++ l.numbers;
  capacity : vec_capacity l.list ≡ vec_capacity l.fn.list;
  room : vec_len l.list + length (drop l.number-index l.numbers) ≤ vec_capacity l.list;
}
