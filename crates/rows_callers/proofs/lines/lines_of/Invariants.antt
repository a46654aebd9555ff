use Rattle.console_session.specs.Sessions.{AreLines}
use Rattle.rows_callers.proofs.lines.lines_of.Given as goal

-- what stands there so far are lines of a session
abbrev pub invariant-loop-line : goal.invariant-loop-line
invariant-loop-line l =
    (goal.iterator-loop-line).can_next l.line-iterator × (goal.iterator-loop-line).is_finite l.line-iterator
    × AreLines l.lines
