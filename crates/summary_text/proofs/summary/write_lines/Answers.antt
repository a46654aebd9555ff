use Rattle.std.proofs.Common.{◌∙◌, string_bytes}
use Rattle.std.proofs.lemmas.Result.{err_from_is_err_and}
use Rattle.trace_text.proofs.LineLemmas.{texts_taken, texts_cut}
use Rattle.summary_text.proofs.summary.write_lines.Goals as goal

pub loop-line-preserved : goal.loop-line-preserved
loop-line-preserved g c =
    let before = c.loop-line.invariant in
    record {
      so_far = texts_taken string_bytes c.args.lines.now c.loop-line.line-index c.line-item.result _ _ _
          c.loop-line-test.true before.so_far
          (rw (← c.line-item.is) c.in_ok-write_line.ensures.ok);
      flushed = c.in_ok-write_line.ensures.flushed ∙ before.flushed;
      uncounted = c.in_ok-write_line.ensures.fault.uncounted (λ failed. cc) ∙ before.uncounted;
    }

pub returns-in_err-write_line-clause-err : goal.returns-in_err-write_line-clause-err
returns-in_err-write_line-clause-err g c =
    let p = err_from_is_err_and c.from_residual.result c.from_residual.ensures.1 in
    rw p.1 (texts_cut string_bytes c.args.lines.now c.loop-line.line-index c.line-item.result _ _ _
    c.loop-line-test.true c.loop-line.invariant.so_far
    (rw (← c.line-item.is) c.in_err-write_line.ensures.err))
