use Rattle.std.proofs.Common.{arith}
use Rattle.draw_replay.specs.declared.columns.TheConstants.{MOST_COLUMNS}
use Rattle.draw_replay.proofs.ColumnLemmas.{all_have_columns}
use Rattle.draw_replay.proofs.columns.Columns.of.Goals as goal

-- as wide as it takes for so few
pub invariant_of-result-clause-all : goal.invariant_of-result-clause-all
invariant_of-result-clause-all c =
    rw (c.min-count.ensures, c.div_ceil-2.ensures)
    (all_have_columns c.args.cycles MOST_COLUMNS c.max-each.result (omega arith)
    (rw (← c.div_ceil.ensures) c.max-each.ensures))
