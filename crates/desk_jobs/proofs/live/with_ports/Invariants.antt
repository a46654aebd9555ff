use Rattle.std.proofs.Common.{◌≡◌, ◌++◌, map}
use Rattle.desk_jobs.proofs.live.with_ports.Given as goal

-- the sessions and passes that have their place, and those that are left, are all
abbrev pub invariant-loop-session : goal.invariant-loop-session
invariant-loop-session g l = record {
  sessions : map (λ s. s.0) l.pairs.items ++ l.session-iterator.a.rest.items ≡ l.fn.sessions.items;
  passes : map (λ s. s.1.pass) l.pairs.items ++ l.session-iterator.b.rest.items ≡ l.fn.passes.items;
}
