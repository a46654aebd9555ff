-- What a call of `run_alone` promises, and `run` where its words are accepted.
use Rattle.std.specs.Prelude.{◌≡◌, ◌≢◌, ◌⊎◌, ℕ, ◌+◌, ◌≤◌, false, List, Option, None, Some, Result, Ok, Err}
use Rattle.std.specs.Prelude.{IfOk, IfSome, IsSome}
use Rattle.std.specs.Io.KnownBytes.{IsAtEnd}
use Rattle.cm_document.specs.declared.limits.TheConstants.{LONGEST_DOCUMENT}
use Rattle.outside_io.specs.Bytes.{TakesAtMost}
use Rattle.outside_io.specs.Faults.{IsToldAs, Rose}
use Rattle.cm_model.specs.declared.blanks.Blanks.{Blanks}
use Rattle.cm_words.specs.Words.{asked, can_make}
use Rattle.cm_words.specs.declared.job.JobKind.{JobKind}
use Rattle.cm_words.specs.declared.job.JobKind.TheVariants as kind
use Rattle.cm_words.specs.declared.job.TheConstants.{MOST_ROUNDS}
use Rattle.cm_words.specs.declared.job.WordsFault.{WordsFault}
use Rattle.cm_words.specs.declared.job.WordsFault.TheVariants.{Usage}
use Rattle.make_document.specs.Made.{made}
use Rattle.cm_words.specs.declared.job.Job.{Job}
use Rattle.cm_top.specs.Answering.{Answering, AnsweredWith, Answers, answering_of, status_for}
use Rattle.desk_jobs.specs.Book.{BookFacts}
use Rattle.cm_top.specs.Tasks.{Task, task_of}
use Rattle.cm_top.specs.Status.{Written, EndedWith, HandsOut, IsPlain, ComesOfBytes, ComesBeforeWriting, status_of}
use Rattle.cm_top.specs.declared.status.Status.{Status}
use Rattle.cm_top.specs.declared.status.Status.TheVariants as status

-- what a source tells: the bytes that are left, and how often it failed
pub record SourceFacts : Type 0 where
  pub left : Option (List ℕ)
  pub faults : ℕ

-- what a sink tells: the bytes taken, how many of them are flushed, and how often it failed
pub record SinkFacts : Type 0 where
  pub taken : Option (List ℕ)
  pub flushed : Option ℕ
  pub faults : ℕ

-- what a source of this kind tells now, and what a sink of this kind does
abbrev pub source_facts : {S : Type 0} → (S → Option (List ℕ)) → (S → ℕ) → S → SourceFacts
source_facts left faults source = record { left = left source; faults = faults source }

abbrev pub sink_facts : {K : Type 0} → (K → Option (List ℕ)) → (K → Option ℕ) → (K → ℕ) → K → SinkFacts
sink_facts taken flushed faults sink = record { taken = taken sink; flushed = flushed sink; faults = faults sink }

-- what a run wrote into a sink that told this before it and this after it
abbrev pub written : SinkFacts → SinkFacts → Written
written sink sink' = record { old = sink.taken; new = sink'.taken; flushed = sink'.flushed }

-- Words that are not accepted are answered so, unless memory runs out, and no others are. Then nothing was read,
-- nothing written and no book made.
pub record RefusesWords {S K B : Type 0} (words : List (List ℕ)) (source source' : S) (sink sink' : K) (ended : Status)
    (book : Option B) : Type 0 where
  pub alone : ended ≡ status.BadWords → asked words ≡ Err Usage
  pub refused : asked words ≡ Err Usage → (ended ≡ status.BadWords) ⊎ (ended ≡ status.Memory)
  pub nothing_read : asked words ≡ Err Usage → source' ≡ source
  pub nothing_written : asked words ≡ Err Usage → sink' ≡ sink
  pub no_book : asked words ≡ Err Usage → book ≡ None

-- A job that one thread does over any document without a trace.
abbrev pub ReadsPlainly : JobKind → Type 0
ReadsPlainly kind.Live = ⊥
ReadsPlainly kind.Check = ⊥
ReadsPlainly kind.Plan = ⊥
ReadsPlainly _ = Unit {0}

-- A job that one thread can do: it is not live and has one worker, and its document, if it is made, has as many rounds
-- as one can have. An upgrade, a check and a plan read theirs.
pub record CanRunAlone (job : Job) : Type 0 where
  pub alone : job.kind ≢ kind.Live
  pub one : job.workers ≡ 1
  pub rounds : IfSome job.make (λ rounds. (1 ≤ rounds) × (rounds ≤ MOST_ROUNDS))
  pub unmade : can_make job.kind ≡ false → job.make ≡ None

-- What a run of a job leaves as it was.
pub record SparesAlone {S K : Type 0} (job : Job) (ended : Status) (source source' : S) (sink sink' : K) : Type 0 where
  -- a made document is not read
  pub unread : IfSome job.make (λ _. source' ≡ source)
  -- only with `Ok`, a want of memory or a fault of writing may the sink be another
  pub untouched : ComesBeforeWriting ended → sink' ≡ sink

-- the words ask for a live run
abbrev pub AskForLive : Result Job WordsFault → Type 0
AskForLive (Ok job) = job.kind ≡ kind.Live
AskForLive (Err refused) = ⊥

-- What a run of words leaves as it was.
pub record Spares {S K P : Type 0} (words : List (List ℕ)) (ended : Status) (source source' : S) (sink sink' : K)
    (pace pace' : P) : Type 0 where
  -- a made document is not read
  pub unread : IfOk (asked words) (λ job. IfSome job.make (λ _. source' ≡ source))
  -- only with `Ok`, a want of memory or a fault of writing may the sink be another
  pub untouched : ComesBeforeWriting ended → sink' ≡ sink
  -- nothing is paced but a live run
  pub unpaced : ¬ (AskForLive (asked words)) → pace' ≡ pace

-- How a run ends by the faults of its sink, before and after it.
pub record MindsSink (sink sink' : SinkFacts) (ended : Status) : Type 0 where
  -- it ends as a fault of writing exactly where a write or a flush failed
  pub write_fault : IsToldAs status.WriteFault ended sink.faults sink'.faults
  -- what was taken is flushed where the run went well, and nowhere else
  pub unflushed : ended ≢ status.Ok → sink'.flushed ≡ sink.flushed

-- How a run ends by the faults of its source and its sink, before and after it, whatever its words and its document
-- are.
pub record MindsFaults (source source' : SourceFacts) (sink sink' : SinkFacts) (ended : Status) : Type 0 where
  -- it ends as a fault of reading exactly where a read failed
  pub read_fault : IsToldAs status.ReadFault ended source.faults source'.faults
  -- never more than one byte past the longest document is taken from the source
  pub read_at_most : TakesAtMost source.left source'.left (LONGEST_DOCUMENT + 1)
  pub of_sink : MindsSink sink sink' ended

-- A run of these bytes into this sink, before and after, with its status and its book.
pub record RunsBytes (task : Task) (blanks : Blanks) (bytes : List ℕ) (sink sink' : SinkFacts) (ended : Status)
    (book : Option BookFacts) : Type 0 where
  pub ran : EndedWith task bytes blanks (written sink sink') ended book
  pub handed_out : HandsOut task blanks (written sink sink') ended book
  pub of_bytes : ComesOfBytes ended
  pub plain : IsPlain ended

-- A run from this source, before and after, into this sink, before and after, with its status and its book. This was
-- the task.
pub record Runs (task : Task) (blanks : Blanks) (source source' : SourceFacts) (sink sink' : SinkFacts) (ended : Status)
    (book : Option BookFacts) : Type 0 where
  -- by the bytes of the source, where they are known
  pub ran : IfSome source.left (λ bytes. EndedWith task bytes blanks (written sink sink') ended book)
  -- whatever the source tells, by the book
  pub handed_out : HandsOut task blanks (written sink sink') ended book
  -- the words are none of its business
  pub never_words : ended ≡ status.BadWords → ⊥
  -- a run that went well has read its source to the end
  pub read_whole : ended ≡ status.Ok → IsSome source.left → IsAtEnd source'.left
  -- no refusal carries a want of memory
  pub plain : IsPlain ended
  -- Where neither source nor sink had a fault, the bytes alone decide the status, unless memory runs out: a document
  -- that is too long or refused is answered so, and an accepted one goes well.
  pub exact : IfSome source.left (λ bytes. ¬ (Rose source.faults source'.faults) → ¬ (Rose sink.faults sink'.faults)
      → (ended ≡ status_of bytes) ⊎ (ended ≡ status.Memory))

-- A run of a made document of so many rounds: what a run of its bytes promises. It goes well, unless the sink fails or
-- memory runs out.
pub record RunsMade (task : Task) (blanks : Blanks) (rounds : ℕ) (sink sink' : SinkFacts) (ended : Status)
    (book : Option BookFacts) : Type 0 where
  pub ran : RunsBytes task blanks (made rounds) sink sink' ended book
  pub exact : ¬ (Rose sink.faults sink'.faults) → (ended ≡ status.Ok) ⊎ (ended ≡ status.Memory)

-- A run of a job, by where its document comes from: the source, or with `--make` a number of rounds. Then the source
-- tells nothing.
abbrev pub RunsFrom : Option ℕ → Task → Blanks → SourceFacts → SourceFacts → SinkFacts → SinkFacts → Status
    → Option BookFacts → Type 0
RunsFrom None task blanks source source' sink sink' ended book = Runs task blanks source source' sink sink' ended book
RunsFrom (Some rounds) task blanks source source' sink sink' ended book =
    RunsMade task blanks rounds sink sink' ended book

-- A job that answers without a book, from this source, before and after, into this sink, before and after, with its
-- status.
pub record AnswersFrom (job : Answering) (blanks : Blanks) (source source' : SourceFacts) (sink sink' : SinkFacts)
    (ended : Status) (book : Option BookFacts) : Type 0 where
  -- it has no book
  pub no_book : book ≡ None
  -- by the bytes of the source, where they are known
  pub ran : IfSome source.left (λ bytes. AnsweredWith job blanks bytes (written sink sink') ended)
  -- whatever the source tells
  pub answers : Answers job blanks (written sink sink') ended
  -- the words are none of its business
  pub never_words : ended ≡ status.BadWords → ⊥
  -- one that went well has read its source to the end
  pub read_whole : ended ≡ status.Ok → IsSome source.left → IsAtEnd source'.left
  -- no refusal carries a want of memory
  pub plain : IsPlain ended
  -- Where neither source nor sink had a fault, the bytes alone decide the status, unless memory runs out.
  pub exact : IfSome source.left (λ bytes. ¬ (Rose source.faults source'.faults) → ¬ (Rose sink.faults sink'.faults)
      → (ended ≡ status_for job blanks bytes) ⊎ (ended ≡ status.Memory))

-- A job, by whether it answers without a book, or else runs.
abbrev pub DoesJob : Option Answering → Job → Blanks → SourceFacts → SourceFacts → SinkFacts → SinkFacts → Status
    → Option BookFacts → Type 0
DoesJob None job blanks source source' sink sink' ended book =
    RunsFrom job.make (task_of job blanks) blanks source source' sink sink' ended book
DoesJob (Some answering) job blanks source source' sink sink' ended book =
    AnswersFrom answering blanks source source' sink sink' ended book

-- What a run of a job promises, by its kind.
abbrev pub RunsJob : Job → Blanks → SourceFacts → SourceFacts → SinkFacts → SinkFacts → Status → Option BookFacts
    → Type 0
RunsJob job blanks source source' sink sink' ended book =
    DoesJob (answering_of job.kind) job blanks source source' sink sink' ended book
