use Rattle.std.proofs.Common.{◌≡◌, ◌+◌, ◌-◌, ◌*◌, ◌≤◌}
use Rattle.cm_model.specs.Limiters.{slowing}
use Rattle.cm_bench.specs.declared.limits.TheConstants.{CHANGE, FARTHEST}
use Rattle.cm_bench.proofs.limits.way.Given as goal

-- with what is left the way is the whole one, and it is short
abbrev pub invariant-loop-turn : goal.invariant-loop-turn
invariant-loop-turn l =
    (l.sum + slowing CHANGE l.left (l.step - l._turn) ≡ slowing CHANGE l.step l.step)
    × ((l.left ≤ l.step) × (l.sum ≤ l._turn * FARTHEST))
