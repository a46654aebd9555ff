use Rattle.std.proofs.Common.{All}
use Rattle.rows_callers.specs.Consoles.{IsFresh}
use Rattle.rows_callers.proofs.runs.sessions_of.Given as goal

-- each so far is before its first line
abbrev pub invariant-loop-session : goal.invariant-loop-session
invariant-loop-session l = All (λ s. IsFresh s.0 s.1.who s.1.made.items s.1.waited) l.all.items
