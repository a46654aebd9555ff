use Rattle.std.proofs.Common.{◌≡◌, ◌+◌, ◌≤◌, ◌++◌, map, length, vec_len, vec_capacity}
use Rattle.live_run.proofs.run.ports_of.Given as goal

-- what is there and what is left are all, and what is left has room
abbrev pub invariant-loop-pair : goal.invariant-loop-pair
invariant-loop-pair g l = record {
  items : l.ports.items ++ map (λ s. s.1) l.pair-iterator.rest.items
      ≡ l.fn.ports.items ++ map (λ s. s.1) l.fn.sessions.items;
  room : vec_len l.ports + length l.pair-iterator.rest.items ≤ vec_capacity l.ports;
}
