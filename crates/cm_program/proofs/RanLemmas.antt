-- What a run promises, whatever book it made.
use Rattle.std.proofs.Common.{◌≡◌, ℕ, List, Option, subst}
use Rattle.std.specs.Prelude.{Result, Ok, Err, IfOk}
use Rattle.cm_model.specs.declared.blanks.Blanks.{Blanks}
use Rattle.desk_jobs.specs.Book.{BookFacts}
use Rattle.cm_top.specs.Calls.Run.{SourceFacts, SinkFacts, MindsFaults, RefusesWords, RunsJob}
use Rattle.cm_top.specs.Status.{ComesBeforeWriting}
use Rattle.cm_top.specs.declared.status.Status.{Status}
use Rattle.cm_words.specs.Words.{asked}
use Rattle.cm_words.specs.declared.job.Job.{Job}
use Rattle.cm_words.specs.declared.job.WordsFault.{WordsFault}
use Rattle.cm_program.specs.Ran.{RanWords}

-- of a job that is asked for there is a book with which this holds
with_book : (r : Result Job WordsFault) (P : Job → Option BookFacts → Type 0) (book : Option BookFacts)
    → IfOk r (λ job. P job book) → IfOk r (λ job. (b : Option BookFacts) × P job b)
with_book (Ok job) P book holds = (book, holds)
with_book (Err fault) P book holds = tt

module _ {S K B : Type 0} (of_source : S → SourceFacts) (of_sink : K → SinkFacts) (words : List (List ℕ))
    (stock blanks : Blanks) (source source' : S) (sink sink' : K) (ended : Status) (book : Option B) where
  pub ran_words : (facts : Option BookFacts) → stock ≡ blanks
      → RefusesWords words source source' sink sink' ended book
      → IfOk (asked words)
      (λ job. RunsJob job stock (of_source source) (of_source source') (of_sink sink) (of_sink sink') ended facts)
      → (ComesBeforeWriting ended → sink' ≡ sink)
      → MindsFaults (of_source source) (of_source source') (of_sink sink) (of_sink sink') ended
      → RanWords of_source of_sink words blanks source source' sink sink' ended
  ran_words facts same refuses ran untouched outside = record {
    ran = with_book (asked words)
        (λ job b. RunsJob job blanks (of_source source) (of_source source') (of_sink sink) (of_sink sink') ended b)
        facts
        (subst (λ (b : Blanks). IfOk (asked words) (λ job. RunsJob job b (of_source source) (of_source source')
        (of_sink sink) (of_sink sink') ended facts)) same ran);
    refused = refuses.refused;
    alone = refuses.alone;
    unread = λ bad. refuses.nothing_read (refuses.alone bad);
    untouched = untouched;
    outside = outside;
  }
