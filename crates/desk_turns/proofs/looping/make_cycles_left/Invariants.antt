use Rattle.cm_model.specs.Scheduled.{cycles_from}
use Rattle.cm_desk.specs.Desk.{now_of}
use Rattle.desk_turns.specs.Jobs.{GoesOn}
use Rattle.desk_turns.proofs.looping.make_cycles_left.Given as goal

-- the cycles so far, from the first that is left
abbrev pub invariant-loop-past : goal.invariant-loop-past
invariant-loop-past g l =
    GoesOn (cycles_from (now_of (g.J.Moves.facts l.fn.job).desk).ended l.past) (g.J.Moves.facts l.fn.job)
    (g.J.Moves.facts l.job)
