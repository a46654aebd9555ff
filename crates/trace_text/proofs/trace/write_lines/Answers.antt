use Rattle.std.proofs.Common.{◌∙◌}
use Rattle.std.proofs.lemmas.Result.{err_from_is_err_and}
use Rattle.cm_model.specs.Trace.{line_text}
use Rattle.trace_text.proofs.LineLemmas.{texts_taken, texts_cut}
use Rattle.trace_text.proofs.trace.write_lines.Goals as goal

pub loop-entry-preserved : goal.loop-entry-preserved
loop-entry-preserved g c =
    let line = line_text c.args.sessions.now c.args.names.now in
    let before = c.loop-entry.invariant in
    record {
      so_far = texts_taken line c.args.history.now c.loop-entry.entry-index c.entry-item.result _ _ _
          c.loop-entry-test.true before.so_far
          (rw (← c.entry-item.is) (rw before.names at c.in_ok-write_line.ensures.ok));
      flushed = c.in_ok-write_line.ensures.stays.0 ∙ before.flushed;
      uncounted = c.in_ok-write_line.ensures.fault.uncounted (λ failed. cc) ∙ before.uncounted;
      names = c.in_ok-write_line.ensures.stays.1 ∙ before.names;
    }

pub returns-in_err-write_line-clause-err : goal.returns-in_err-write_line-clause-err
returns-in_err-write_line-clause-err g c =
    let p = err_from_is_err_and c.from_residual.result c.from_residual.ensures.1 in
    let line = line_text c.args.sessions.now c.args.names.now in
    rw p.1 (texts_cut line c.args.history.now c.loop-entry.entry-index c.entry-item.result _ _ _ c.loop-entry-test.true
    c.loop-entry.invariant.so_far
    (rw (← c.entry-item.is) (rw c.loop-entry.invariant.names at c.in_err-write_line.ensures.err)))
