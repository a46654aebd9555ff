-- What a run of the program promises.
use Rattle.std.specs.Prelude.{◌≡◌, ◌⊎◌, ℕ, List, Option, Err, IfOk}
use Rattle.cm_model.specs.declared.blanks.Blanks.{Blanks}
use Rattle.desk_jobs.specs.Book.{BookFacts}
use Rattle.cm_top.specs.Calls.Run.{SourceFacts, SinkFacts, MindsFaults, RunsJob}
use Rattle.cm_top.specs.Status.{ComesBeforeWriting}
use Rattle.cm_top.specs.declared.status.Status.{Status}
use Rattle.cm_top.specs.declared.status.Status.TheVariants as status
use Rattle.cm_words.specs.Words.{asked}
use Rattle.cm_words.specs.declared.job.WordsFault.TheVariants.{Usage}

module _ {S K : Type 0} (of_source : S → SourceFacts) (of_sink : K → SinkFacts) where
  -- These words were run over a stock of so many blanks. If they ask for a job, it did what is promised of the job,
  -- with some book, which nobody keeps. If they are not accepted, the status says so, unless memory runs out, and says
  -- it of no others.
  pub record RanWords (words : List (List ℕ)) (blanks : Blanks) (source source' : S) (sink sink' : K) (ended : Status)
      : Type 0 where
    pub ran : IfOk (asked words) (λ job. (book : Option BookFacts)
        × RunsJob job blanks (of_source source) (of_source source') (of_sink sink) (of_sink sink') ended book)
    pub refused : asked words ≡ Err Usage → (ended ≡ status.BadWords) ⊎ (ended ≡ status.Memory)
    pub alone : ended ≡ status.BadWords → asked words ≡ Err Usage
    pub unread : ended ≡ status.BadWords → source' ≡ source
    pub untouched : ComesBeforeWriting ended → sink' ≡ sink
    pub outside : MindsFaults (of_source source) (of_source source') (of_sink sink) (of_sink sink') ended

-- Nothing was run, read or written, and the status is that of words that are not accepted, or of want of memory.
pub record RanNothing {S K : Type 0} (source source' : S) (sink sink' : K) (ended : Status) : Type 0 where
  pub cause : (ended ≡ status.BadWords) ⊎ (ended ≡ status.Memory)
  pub nothing_read : source' ≡ source
  pub nothing_written : sink' ≡ sink
