-- What a job without a run comes to, over what it was given and over bytes.
use Rattle.std.specs.Prelude.{◌≡◌, ◌⊎◌, ℕ, List}
use Rattle.cm_model.specs.declared.blanks.Blanks.{Blanks}
use Rattle.cm_top.specs.Answering.{Answering, AnsweredWith, Refuses, WroteAnswer, status_for, status_of_given}
use Rattle.cm_top.specs.Status.{ComesOfBytes, IsPlain, Written}
use Rattle.document_text.specs.Traced.{Given}
use Rattle.cm_top.specs.declared.status.Status.{Status}
use Rattle.cm_top.specs.declared.status.Status.TheVariants as status

-- It answers what was given or refuses it, and does so by the status that this asks for, unless memory ran out or the
-- sink failed. No refusal carries a want of memory.
pub record AnswersGiven (job : Answering) (blanks : Blanks) (given : Given) (w : Written) (ended : Status) : Type 0
  where
    pub answered : WroteAnswer job blanks given w ended ⊎ Refuses job blanks given ended
    pub by_given : (ended ≡ status_of_given job blanks given) ⊎ ((ended ≡ status.Memory) ⊎ (ended ≡ status.WriteFault))
    pub plain : IsPlain ended

-- It answers bytes: what they are accepted as was answered or refused, or their first fault was told.
pub record AnswersBytes (job : Answering) (blanks : Blanks) (bytes : List ℕ) (w : Written) (ended : Status) : Type 0
  where
    pub answered : AnsweredWith job blanks bytes w ended
    pub by_bytes : (ended ≡ status_for job blanks bytes) ⊎ ((ended ≡ status.Memory) ⊎ (ended ≡ status.WriteFault))
    pub of_bytes : ComesOfBytes ended
    pub plain : IsPlain ended
