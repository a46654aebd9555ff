use Rattle.std.proofs.Common.{◌≡◌, ◌*◌, ◌≤◌, ◌^◌, take, sum_by}
use Rattle.cm_model.specs.Blanks.{blanks_of}
use Rattle.trace_check.proofs.check.are_few.Given as goal

-- the sum so far
abbrev pub invariant-loop-row : goal.invariant-loop-row
invariant-loop-row l =
    (l.sum ≡ sum_by (λ row. blanks_of l.counts row.1) (take l.row-index l.kinds)) × (l.sum ≤ l.row-index * 2 ^ 32)
