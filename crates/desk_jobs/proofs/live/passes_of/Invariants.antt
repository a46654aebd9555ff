use Rattle.std.proofs.Common.{◌≡◌, ◌+◌, ◌≤◌, ◌++◌, All, map, length, vec_len, vec_capacity}
use Rattle.shared_desk.specs.Passes.{IsSessionPass}
use Rattle.desk_jobs.proofs.live.passes_of.Given as goal

-- what is there and what is left are all, what is left has room, and those before were of their desks
abbrev pub invariant-loop-port : goal.invariant-loop-port
invariant-loop-port g l = record {
  items : l.passes.items ++ map (λ p. p.pass) l.port-iterator.rest.items
      ≡ l.fn.passes.items ++ map (λ p. p.pass) l.fn.ports.items;
  room : vec_len l.passes + length l.port-iterator.rest.items ≤ vec_capacity l.passes;
  yielded : l.yielded ++ l.port-iterator.rest.items ≡ l.fn.ports.items;
  theirs : All (λ p. IsSessionPass p.desk.now.lock p.desk.now.at_first.value p.pass) l.yielded;
}
