use Rattle.cm_model.specs.Scheduled.{cycles}
use Rattle.desk_turns.specs.Jobs.{GoesOn}
use Rattle.desk_turns.proofs.looping.make_cycles.Given as goal

-- the cycles so far
abbrev pub invariant-loop-number : goal.invariant-loop-number
invariant-loop-number g l = GoesOn (cycles l.number) (g.J.Moves.facts l.fn.job) (g.J.Moves.facts l.job)
