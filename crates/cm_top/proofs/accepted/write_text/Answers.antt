use Rattle.cm_model.specs.Trace.{output}
use Rattle.cm_top.proofs.accepted.write_text.Goals as goal

-- of a document that is read the text is the trace
pub returns-in-None-clause-ok : goal.returns-in-None-clause-ok
unfolding output
returns-in-None-clause-ok g c =
    rw c.in-None.is (rw (c.checked-in-None.ensures, c.history-in-None.ensures) at c.write_trace.ensures.ok)

pub returns-in-None-clause-err : goal.returns-in-None-clause-err
unfolding output
returns-in-None-clause-err g c =
    rw c.in-None.is (rw (c.checked-in-None.ensures, c.history-in-None.ensures) at c.write_trace.ensures.err)
