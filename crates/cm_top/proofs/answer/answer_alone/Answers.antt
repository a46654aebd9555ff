use Rattle.std.proofs.Common.{sym, ap, ◌∙◌}
use Rattle.std.specs.Prelude.{Err}
use Rattle.cm_top.proofs.BytesLemmas.{bytes-AnswersFrom, failed-AnswersFrom}
use Rattle.cm_top.proofs.BytesLemmas.{long-AnswersFrom, memory-AnswersFrom, failed_Rose}
use Rattle.cm_top.proofs.answer.answer_alone.Goals as goal

-- what was read is all that the source told, and its bytes were answered
pub returns-in-Ok-clause-answers : goal.returns-in-Ok-clause-answers
returns-in-Ok-clause-answers g c =
    let answers = rw c.as_slice.ensures.value at c.answer_bytes.ensures.answers in
    bytes-AnswersFrom _ _ _ _ c.in-Ok.bytes.items _ _ c.answer_bytes.result c.in-Ok.ensures.read.whole answers
    c.answer_bytes.ensures.outside

-- the source was read without a fault
pub returns-in-Ok-clause-outside : goal.returns-in-Ok-clause-outside
returns-in-Ok-clause-outside g c = record {
  read_fault = record {
    later = c.read_whole.ensures.cause.later;
    counted = λ failed. absurd (rw failed at c.answer_bytes.ensures.answers.of_bytes);
    uncounted = λ other. c.read_whole.ensures.cause.uncounted (λ failed. let no = sym c.in-Ok.is ∙ failed in cc);
  };
  read_at_most = c.read_whole.ensures.at_most;
  of_sink = c.answer_bytes.ensures.outside;
}

-- a source that failed, one that is too long, and one for which memory ran out
pub returns-in-Err-Failed-clause-answers : goal.returns-in-Err-Failed-clause-answers
returns-in-Err-Failed-clause-answers g c =
    failed-AnswersFrom _ _ _ _ _
    (failed_Rose _ _ (c.read_whole.ensures.cause.counted (c.in-Err-Failed.is ∙ ap Err c.in-Err-Failed.field-0-is)))

pub returns-in-Err-TooLong-clause-answers : goal.returns-in-Err-TooLong-clause-answers
returns-in-Err-TooLong-clause-answers g c =
    long-AnswersFrom _ _ _ _ _
    (c.read_whole.ensures.cause.long (c.in-Err-TooLong.is ∙ ap Err c.in-Err-TooLong.field-0-is))

pub returns-in-Err-Memory-clause-answers : goal.returns-in-Err-Memory-clause-answers
returns-in-Err-Memory-clause-answers g c = memory-AnswersFrom _ _ _ _ _
