use Rattle.std.proofs.Common.{refl, ap}
use Rattle.std.proofs.KnownBytes.{Keeps-refl}
use Rattle.cm_top.specs.Answering.{status_of_judgement}
use Rattle.cm_top.proofs.BytesLemmas.{answer_written, refusal_told, memory_told}
use Rattle.cm_top.proofs.ReadLemmas.{Wrote-late}
use Rattle.cm_top.proofs.check.check_document.Goals as goal

-- a legal trace is told so
pub returns-in-Ok-clause-checked : goal.returns-in-Ok-clause-checked
returns-in-Ok-clause-checked g c =
    answer_written _ _ _ _ c.write.result _ (c.in-Ok.ensures.judges, refl)
    (ap status_of_judgement c.in-Ok.ensures.tells) (rw c.as_slice.ensures at c.write.ensures.wrote)

pub returns-in-Ok-clause-untouched : goal.returns-in-Ok-clause-untouched
returns-in-Ok-clause-untouched g c = λ before.
    absurd (Wrote-late _ (record { old = _; new = _; flushed = g.K.Sink.flushed c.write.new.sink }) c.write.result
    c.write.ensures.wrote before)

-- another is refused
pub returns-in-Err-NotLegal-clause-checked : goal.returns-in-Err-NotLegal-clause-checked
returns-in-Err-NotLegal-clause-checked g c =
    refusal_told _ _ _ _ _ (rw c.in-Err-NotLegal.field-0-is at c.in-Err-NotLegal.ensures.judges)
    (ap status_of_judgement (rw c.in-Err-NotLegal.field-0-is at c.in-Err-NotLegal.ensures.tells)) tt

-- and for want of memory none is judged
pub returns-in-Err-Memory-clause-checked : goal.returns-in-Err-Memory-clause-checked
returns-in-Err-Memory-clause-checked g c = memory_told _ _ _ _ (Keeps-refl _)
