use Rattle.std.proofs.Common.{◌≡◌, ◌+◌, ◌≤◌, ◌++◌, length, drop, vec_len, vec_capacity}
use Rattle.cm_storage.proofs.ran_room.push_values.Given as goal

-- what is there and what is left are all, and what is left has room
abbrev pub invariant-loop-value : goal.invariant-loop-value
invariant-loop-value l = record {
  items : l.list.items ++ drop l.value-index l.values ≡ l.fn.list.items ++ l.values;
  capacity : vec_capacity l.list ≡ vec_capacity l.fn.list;
  room : vec_len l.list + length (drop l.value-index l.values) ≤ vec_capacity l.list;
}
