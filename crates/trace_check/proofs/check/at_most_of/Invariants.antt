use Rattle.std.proofs.Common.{◌≡◌, drop, map}
use Rattle.cm_model.specs.Blanks.{blanks_of, counted_by}
use Rattle.trace_laws.specs.Stocks.{at_most_of}
use Rattle.trace_laws.proofs.StockLemmas.{lessened}
use Rattle.trace_check.proofs.check.at_most_of.Given as goal

-- with the kinds that are left it comes to what it comes to with all, and what there is, is counted
abbrev pub invariant-loop-row : goal.invariant-loop-row
invariant-loop-row l =
    (lessened l.most l.counts l.few (map (λ row. row.1) (drop l.row-index l.kinds))
    ≡ at_most_of l.most l.counts (map (λ row. row.1) l.kinds))
    × (l.few ≡ counted_by (blanks_of l.few))
