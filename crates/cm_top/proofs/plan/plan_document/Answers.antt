use Rattle.std.proofs.Common.{ap}
use Rattle.std.proofs.KnownBytes.{Keeps-refl}
use Rattle.cm_top.specs.Answering.{status_of_plan}
use Rattle.cm_top.proofs.BytesLemmas.{answer_written, memory_told}
use Rattle.cm_top.proofs.ReadLemmas.{Wrote-late}
use Rattle.cm_top.proofs.plan.plan_document.Goals as goal

-- the script is written
pub returns-in-Ok-clause-planned : goal.returns-in-Ok-clause-planned
returns-in-Ok-clause-planned g c =
    answer_written _ _ _ _ c.write.result c.in-Ok.text.items c.in-Ok.ensures (ap status_of_plan c.in-Ok.ensures)
    (rw c.as_slice.ensures.value at c.write.ensures.wrote)

pub returns-in-Ok-clause-untouched : goal.returns-in-Ok-clause-untouched
returns-in-Ok-clause-untouched g c = λ before.
    absurd (Wrote-late _ (record { old = _; new = _; flushed = g.K.Sink.flushed c.write.new.sink }) c.write.result
    c.write.ensures.wrote before)

-- for want of memory there is none
pub returns-in-Err-Memory-clause-planned : goal.returns-in-Err-Memory-clause-planned
returns-in-Err-Memory-clause-planned g c = memory_told _ _ _ _ (Keeps-refl _)
