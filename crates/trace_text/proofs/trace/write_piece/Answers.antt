use Rattle.trace_text.proofs.PieceLemmas.{cut_in_two}
use Rattle.trace_text.proofs.trace.write_piece.Goals as goal

-- a front was taken at once, and of the rest a front
pub returns-then-count-line-clause-err : goal.returns-then-count-line-clause-err
returns-then-count-line-clause-err g c =
    cut_in_two _ _ _ c.args.line.now c.in_ok-count.count c.write_whole.result c.in_ok-count.ensures.bytes
    c.write_whole.ensures.err
