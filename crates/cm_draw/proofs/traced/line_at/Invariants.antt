use Rattle.std.proofs.Common.{◌≤◌, length}
use Rattle.cm_draw.proofs.traced.line_at.Given as goal

abbrev pub invariant-loop-rest : goal.invariant-loop-rest
invariant-loop-rest l = length l.rest ≤ length l.text

-- less is left each time
abbrev pub decreases-loop-rest : goal.decreases-loop-rest
decreases-loop-rest l = length l.rest
