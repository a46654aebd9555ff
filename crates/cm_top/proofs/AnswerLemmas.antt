-- From what a job did with a document to what it promises.
use Rattle.std.proofs.Common.{◌≡◌, ℕ, ◌≤◌, List, length, Option, Some, None, Ok}
use Rattle.std.proofs.Common.{true, false, refl, sym, ap, inl, inr, ◌⊎◌, arith}
use Rattle.std.specs.Prelude.{IfSome, Result, Err, nat_lt}
use Rattle.std.proofs.lemmas.Bool.Decides.{nat_tests}
use Rattle.std.proofs.KnownBytes.{Keeps-refl}
use Rattle.outside_io.specs.Faults.{IsToldAs, Rose}
use Rattle.cm_document.specs.declared.limits.TheConstants.{LONGEST_DOCUMENT}
use Rattle.cm_document.specs.Grammars.{whole_grammar}
use Rattle.cm_document.specs.Document.{document}
use Rattle.cm_document.specs.Reading.{◌>>=◌}
use Rattle.cm_document.specs.declared.document.Document.{Document}
use Rattle.cm_document.specs.declared.faults.DocumentFault.{DocumentFault}
use Rattle.cm_document.specs.declared.faults.DocumentFault.TheVariants as fault
use Rattle.cm_model.specs.declared.blanks.Blanks.{Blanks}
use Rattle.cm_words.specs.declared.job.Job.{Job}
use Rattle.cm_words.specs.declared.job.JobKind.{JobKind}
use Rattle.cm_words.specs.declared.job.TheConstants.{MOST_ROUNDS}
use Rattle.cm_words.specs.Words.{asked}
use Rattle.cm_top.specs.Answering.{Answering, upgrading, checking, planning, accepted_by, IsAnswer, AnsweredWith}
use Rattle.cm_top.specs.Answering.{Answers, WroteAnswer, DidJob, answering_of, status_for, status_of_accepted, untraced}
use Rattle.desk_jobs.specs.Book.{BookFacts}
use Rattle.cm_top.specs.Status.{IsShort}
use Rattle.cm_top.specs.Tasks.{Task, task_of}
use Rattle.cm_top.specs.Calls.Read.{ReadAs, EndsUnread, Reads, ReadsFrom, MindsSource}
use Rattle.cm_top.specs.Calls.Run.{SourceFacts, SinkFacts, MindsSink, MindsFaults, RefusesWords}
use Rattle.cm_top.specs.Calls.Run.{RunsFrom, AnswersFrom, DoesJob, SparesAlone, written}
use Rattle.cm_top.specs.Status.{Written, Wrote, ComesOfBytes, ComesBeforeWriting, IsPlain}
use Rattle.document_text.specs.Traced.{Given}
use Rattle.cm_top.specs.declared.status.Status.{Status}
use Rattle.cm_top.specs.declared.status.Status.TheVariants as status
use Rattle.cm_top.proofs.ReadLemmas.{told-Rose, some_known, read-Rose, ran-RunsFrom}
use Rattle.cm_top.proofs.ReadLemmas.{unread-RunsFrom, ran-MindsFaults, RanDocument-late, Wrote-late}

-- ---- Of an accepted document

wrote-AnsweredWith : (job : Answering) (blanks : Blanks) (bytes : List ℕ) (given : Given) (w : Written) (ended : Status)
    (text : List ℕ) → IsShort bytes → accepted_by job bytes ≡ Ok given
    → IsAnswer job blanks given text → Wrote text w ended → AnsweredWith job blanks bytes w ended
wrote-AnsweredWith job blanks bytes given w status.Ok text short accepted is wrote = record {
  given = given;
  short = short;
  accepted = accepted;
  text = text;
  is_answer = is;
  taken = wrote.0;
  all_flushed = wrote.1;
}
wrote-AnsweredWith job blanks bytes given w status.Memory text short accepted is wrote =
    inr (record { given = given; short = short; accepted = accepted; text = text; is_answer = is; taken = wrote })
wrote-AnsweredWith job blanks bytes given w status.WriteFault text short accepted is wrote =
    record { given = given; short = short; accepted = accepted; text = text; is_answer = is; taken = wrote }
wrote-AnsweredWith job blanks bytes given w status.BadWords text short accepted is wrote = absurd wrote
wrote-AnsweredWith job blanks bytes given w (status.BadDescription p) text short accepted is wrote = absurd wrote
wrote-AnsweredWith job blanks bytes given w (status.BadScript f) text short accepted is wrote = absurd wrote
wrote-AnsweredWith job blanks bytes given w status.ReadFault text short accepted is wrote = absurd wrote
wrote-AnsweredWith job blanks bytes given w status.TooLong text short accepted is wrote = absurd wrote
wrote-AnsweredWith job blanks bytes given w (status.NotLegal line expected) text short accepted is wrote = absurd wrote
wrote-AnsweredWith job blanks bytes given w (status.CannotSpawn reason) text short accepted is wrote = absurd wrote

pub answer-AnsweredWith : (job : Answering) (blanks : Blanks) (bytes : List ℕ) (given : Given) (w : Written)
    (ended : Status) → IsShort bytes → accepted_by job bytes ≡ Ok given
    → WroteAnswer job blanks given w ended → AnsweredWith job blanks bytes w ended
answer-AnsweredWith job blanks bytes given w ended short accepted (inl (is, kept)) = rw is (inl kept)
answer-AnsweredWith job blanks bytes given w ended short accepted (inr (text, is, wrote)) =
    wrote-AnsweredWith job blanks bytes given w ended text short accepted is wrote

-- what is so of known bytes is so of some
pub answered-Answers : (job : Answering) (blanks : Blanks) (bytes : List ℕ) (w : Written) (ended : Status)
    → AnsweredWith job blanks bytes w ended → Answers job blanks w ended
answered-Answers job blanks bytes w status.Ok answered = (bytes, answered)
answered-Answers job blanks bytes w status.WriteFault answered = (bytes, answered)
answered-Answers job blanks bytes w status.Memory (inl kept) = inl kept
answered-Answers job blanks bytes w status.Memory (inr cut) = inr (bytes, cut)
answered-Answers job blanks bytes w status.BadWords answered = tt
answered-Answers job blanks bytes w (status.BadDescription p) answered = tt
answered-Answers job blanks bytes w (status.BadScript f) answered = tt
answered-Answers job blanks bytes w status.ReadFault answered = tt
answered-Answers job blanks bytes w status.TooLong answered = tt
answered-Answers job blanks bytes w (status.NotLegal line expected) answered = (bytes, answered)
answered-Answers job blanks bytes w (status.CannotSpawn reason) answered = (bytes, answered)

pub answer-OfBytes : (job : Answering) (blanks : Blanks) (given : Given) (w : Written) (ended : Status)
    → WroteAnswer job blanks given w ended → ComesOfBytes ended × IsPlain ended
answer-OfBytes job blanks given w ended (inl (is, kept)) = rw is (tt, tt)
answer-OfBytes job blanks given w status.Ok (inr wrote) = (tt, tt)
answer-OfBytes job blanks given w status.Memory (inr wrote) = (tt, tt)
answer-OfBytes job blanks given w status.WriteFault (inr wrote) = (tt, tt)
answer-OfBytes job blanks given w status.BadWords (inr (text, is, wrote)) = absurd wrote
answer-OfBytes job blanks given w (status.BadDescription p) (inr (text, is, wrote)) = absurd wrote
answer-OfBytes job blanks given w (status.BadScript f) (inr (text, is, wrote)) = absurd wrote
answer-OfBytes job blanks given w status.ReadFault (inr (text, is, wrote)) = absurd wrote
answer-OfBytes job blanks given w status.TooLong (inr (text, is, wrote)) = absurd wrote
answer-OfBytes job blanks given w (status.NotLegal line expected) (inr (text, is, wrote)) = absurd wrote
answer-OfBytes job blanks given w (status.CannotSpawn reason) (inr (text, is, wrote)) = absurd wrote

-- bytes that are short enough ask for the status of what they are accepted as
pub short_for : (job : Answering) (blanks : Blanks) (bytes : List ℕ) → IsShort bytes
    → status_for job blanks bytes ≡ status_of_accepted job blanks (accepted_by job bytes)
short_for job blanks bytes short =
    let few : nat_lt LONGEST_DOCUMENT (length bytes) ≡ false = grind (arith, nat_tests) in rw few refl

answered-exact : (blanks : Blanks) (bytes : List ℕ) (w : Written) (ended : Status) (read write : Type 0)
    → AnsweredWith upgrading blanks bytes w ended → (ended ≡ status.ReadFault → read)
    → (ended ≡ status.WriteFault → write)
    → ¬ read → ¬ write → (ended ≡ status_for upgrading blanks bytes) ⊎ (ended ≡ status.Memory)
answered-exact blanks bytes w status.Ok read write ran rose risen still kept =
    inl (rw (short_for upgrading blanks bytes ran.short, ran.accepted) refl)
answered-exact blanks bytes w status.BadWords read write ran rose risen still kept = absurd ran
answered-exact blanks bytes w (status.BadDescription p) read write ran rose risen still kept =
    inl (rw (short_for upgrading blanks bytes ran.0, ran.1) refl)
answered-exact blanks bytes w (status.BadScript f) read write ran rose risen still kept =
    inl (rw (short_for upgrading blanks bytes ran.0, ran.1) refl)
answered-exact blanks bytes w status.ReadFault read write ran rose risen still kept = absurd (still (rose refl))
answered-exact blanks bytes w status.TooLong read write ran rose risen still kept =
    let long : nat_lt LONGEST_DOCUMENT (length bytes) ≡ true = grind (arith, nat_tests) in inl (rw long refl)
answered-exact blanks bytes w status.Memory read write ran rose risen still kept = inr refl
answered-exact blanks bytes w status.WriteFault read write ran rose risen still kept = absurd (kept (risen refl))
answered-exact blanks bytes w (status.NotLegal line expected) read write ran rose risen still kept = absurd ran.refuses
answered-exact blanks bytes w (status.CannotSpawn reason) read write ran rose risen still kept = absurd ran.refuses

-- ---- Of a source

-- a document that is read for a job without a trace is given without one, and a fault stays
pub taken_untraced : (read : Result Document DocumentFault) (d : Document) → read ≡ Ok d
    → (read >>= λ d. Ok (untraced d)) ≡ Ok (untraced d)
taken_untraced read d accepted = ap (λ (r : Result Document DocumentFault). r >>= λ d. Ok (untraced d)) accepted

pub refused_untraced : (read : Result Document DocumentFault) (f : DocumentFault) → read ≡ Err f
    → (read >>= λ d. Ok (untraced d)) ≡ Err f
refused_untraced read f refused = ap (λ (r : Result Document DocumentFault). r >>= λ d. Ok (untraced d)) refused

did-AnswersFrom : (blanks : Blanks) (source source' : SourceFacts) (d : Document) (sink sink' : SinkFacts)
    (ended : Status) (book : Option BookFacts)
    → Reads source source' (Ok d) → book ≡ None → WroteAnswer upgrading blanks (untraced d) (written sink sink') ended
    → IsToldAs status.WriteFault ended sink.faults sink'.faults
    → AnswersFrom upgrading blanks source source' sink sink' ended book
did-AnswersFrom blanks source source' d sink sink' ended book reads none wrote told =
    let w : Written = written sink sink' in
    let comes = answer-OfBytes upgrading blanks (untraced d) w ended wrote in
    let its = reads.accepted in
    record {
      no_book = none;
      ran = some_known source.left _ _
          (λ bytes read. answer-AnsweredWith upgrading blanks bytes (untraced d) w ended read.0
          (taken_untraced (document whole_grammar bytes) d read.1) wrote) reads.read;
      answers = answered-Answers upgrading blanks its.0 w ended
          (answer-AnsweredWith upgrading blanks its.0 (untraced d) w ended its.1.0
          (taken_untraced (document whole_grammar its.0) d its.1.1) wrote);
      never_words = λ words. rw words at comes.0;
      read_whole = λ well. reads.read_whole;
      plain = comes.1;
      exact = some_known source.left _ _
          (λ bytes read. answered-exact blanks bytes w ended (Rose source.faults source'.faults)
          (Rose sink.faults sink'.faults)
          (answer-AnsweredWith upgrading blanks bytes (untraced d) w ended read.0
          (taken_untraced (document whole_grammar bytes) d read.1) wrote) (λ failed. absurd (rw failed at comes.0))
          (told-Rose status.WriteFault ended sink.faults sink'.faults told)) reads.read;
    }

unread-AnsweredWith : (blanks : Blanks) (bytes : List ℕ) (taken : Option (List ℕ)) (flushed : Option ℕ) (ended : Status)
    → ReadAs bytes (Err ended)
    → AnsweredWith upgrading blanks bytes (record { old = taken; new = taken; flushed = flushed }) ended
unread-AnsweredWith blanks bytes taken flushed status.Ok read = absurd read
unread-AnsweredWith blanks bytes taken flushed status.BadWords read = absurd read
unread-AnsweredWith blanks bytes taken flushed (status.BadDescription p) read =
    (read.0, refused_untraced (document whole_grammar bytes) (fault.Description p) read.1)
unread-AnsweredWith blanks bytes taken flushed (status.BadScript f) read =
    (read.0, refused_untraced (document whole_grammar bytes) (fault.Script f) read.1)
unread-AnsweredWith blanks bytes taken flushed status.ReadFault read = tt
unread-AnsweredWith blanks bytes taken flushed status.TooLong read = read
unread-AnsweredWith blanks bytes taken flushed status.Memory read = inl (Keeps-refl taken)
unread-AnsweredWith blanks bytes taken flushed status.WriteFault read = absurd read
unread-AnsweredWith blanks bytes taken flushed (status.NotLegal line expected) read = absurd read
unread-AnsweredWith blanks bytes taken flushed (status.CannotSpawn reason) read = absurd read

unread-Answers : (blanks : Blanks) (taken : Option (List ℕ)) (flushed : Option ℕ) (ended : Status) → EndsUnread ended
    → Answers upgrading blanks (record { old = taken; new = taken; flushed = flushed }) ended
unread-Answers blanks taken flushed status.Ok unread = absurd unread
unread-Answers blanks taken flushed status.BadWords unread = tt
unread-Answers blanks taken flushed (status.BadDescription p) unread = tt
unread-Answers blanks taken flushed (status.BadScript f) unread = tt
unread-Answers blanks taken flushed status.ReadFault unread = tt
unread-Answers blanks taken flushed status.TooLong unread = tt
unread-Answers blanks taken flushed status.Memory unread = inl (Keeps-refl taken)
unread-Answers blanks taken flushed status.WriteFault unread = absurd unread
unread-Answers blanks taken flushed (status.NotLegal line expected) unread = absurd unread
unread-Answers blanks taken flushed (status.CannotSpawn reason) unread = absurd unread

unread-AnswersFrom : (blanks : Blanks) (source source' : SourceFacts) (sink : SinkFacts) (ended : Status)
    → Reads source source' (Err ended)
    → MindsSource source source' (Err ended) → AnswersFrom upgrading blanks source source' sink sink ended None
unread-AnswersFrom blanks source source' sink ended reads minds =
    let w : Written = record { old = sink.taken; new = sink.taken; flushed = sink.flushed } in
    record {
      no_book = refl;
      ran = some_known source.left _ _
          (λ bytes read. unread-AnsweredWith blanks bytes sink.taken sink.flushed ended read) reads.read;
      answers = unread-Answers blanks sink.taken sink.flushed ended reads.unread;
      never_words = λ words. rw words at reads.unread;
      read_whole = λ well told. absurd (rw well at reads.unread);
      plain = reads.plain;
      exact = some_known source.left _ _
          (λ bytes read. answered-exact blanks bytes w ended (Rose source.faults source'.faults)
          (Rose sink.faults sink.faults)
          (unread-AnsweredWith blanks bytes sink.taken sink.flushed ended read) (read-Rose source source' ended minds)
          (λ failed. absurd (rw failed at reads.unread))) reads.read;
    }

-- ---- Whichever the job

-- an upgrade reads its document; a check and a plan are done elsewhere
abbrev pub ReadsItself : Option Answering → Option ℕ → Type 0
ReadsItself None make = Unit {0}
ReadsItself (Some upgrading) make = make ≡ None
ReadsItself (Some checking) make = ⊥
ReadsItself (Some planning) make = ⊥

pub did-DoesJob : (answering : Option Answering) (job : Job) (blanks : Blanks) (source source' : SourceFacts)
    (d : Document) (sink sink' : SinkFacts) (ended : Status) (book : Option BookFacts)
    → ReadsItself answering job.make → IfSome job.make (λ rounds. (1 ≤ rounds) × (rounds ≤ MOST_ROUNDS))
    → ReadsFrom job.make source source' (Ok d)
    → DidJob answering (task_of job blanks) d blanks (written sink sink') ended book
    → IsToldAs status.WriteFault ended sink.faults sink'.faults
    → DoesJob answering job blanks source source' sink sink' ended book
did-DoesJob None job blanks source source' d sink sink' ended book itself few reads did told =
    ran-RunsFrom job.make (task_of job blanks) blanks source source' d sink sink' ended book few reads did told
did-DoesJob (Some upgrading) job blanks source source' d sink sink' ended book itself few reads did told =
    did-AnswersFrom blanks source source' d sink sink' ended book (rw itself at reads) did.0 did.1 told
did-DoesJob (Some checking) job blanks source source' d sink sink' ended book itself few reads did told = absurd itself
did-DoesJob (Some planning) job blanks source source' d sink sink' ended book itself few reads did told = absurd itself

pub unread-DoesJob : (answering : Option Answering) (job : Job) (blanks : Blanks) (source source' : SourceFacts)
    (sink : SinkFacts) (ended : Status)
    → ReadsItself answering job.make → IfSome job.make (λ rounds. (1 ≤ rounds) × (rounds ≤ MOST_ROUNDS))
    → ReadsFrom job.make source source' (Err ended)
    → MindsSource source source' (Err ended) → DoesJob answering job blanks source source' sink sink ended None
unread-DoesJob None job blanks source source' sink ended itself few reads minds =
    unread-RunsFrom job.make (task_of job blanks) blanks source source' sink ended few reads minds
unread-DoesJob (Some upgrading) job blanks source source' sink ended itself few reads minds =
    unread-AnswersFrom blanks source source' sink ended (rw itself at reads) minds
unread-DoesJob (Some checking) job blanks source source' sink ended itself few reads minds = absurd itself
unread-DoesJob (Some planning) job blanks source source' sink ended itself few reads minds = absurd itself

-- a check and a plan answer over the blanks of their stock
pub answers-DoesJob : (answering : Answering) (job : Job) (kind : JobKind) (blanks counted : Blanks)
    (source source' : SourceFacts) (sink sink' : SinkFacts) (ended : Status) (book : Option BookFacts)
    → answering_of kind ≡ Some answering → counted ≡ blanks
    → AnswersFrom answering counted source source' sink sink' ended book
    → DoesJob (answering_of kind) job blanks source source' sink sink' ended book
answers-DoesJob answering job kind blanks counted source source' sink sink' ended book is same answers =
    rw (is, sym same) answers

unread_by : {S : Type 0} (make : Option ℕ) (source source' : S) → make ≡ None → IfSome make (λ _. source' ≡ source)
unread_by None source source' none = tt
unread_by (Some rounds) source source' none = cc

-- and make no document
pub answers-SparesAlone : {S K : Type 0} (job : Job) (ended : Status) (source source' : S) (sink sink' : K)
    → job.make ≡ None → (ComesBeforeWriting ended → sink' ≡ sink)
    → SparesAlone job ended source source' sink sink'
answers-SparesAlone job ended source source' sink sink' none untouched =
    record { unread = unread_by job.make source source' none; untouched = untouched }

pub did-MindsFaults : (answering : Option Answering) (task : Task) (blanks : Blanks) (source source' : SourceFacts)
    (d : Document) (sink sink' : SinkFacts) (ended : Status) (book : Option BookFacts)
    → MindsSource source source' (Ok d) → DidJob answering task d blanks (written sink sink') ended book
    → MindsSink sink sink' ended → MindsFaults source source' sink sink' ended
did-MindsFaults None task blanks source source' d sink sink' ended book minds did of_sink =
    ran-MindsFaults task blanks source source' d sink sink' ended book minds did of_sink
did-MindsFaults (Some job) task blanks source source' d sink sink' ended book minds did of_sink =
    let comes = answer-OfBytes job blanks (untraced d) (written sink sink') ended did.1 in
    record {
      read_fault = record {
        later = minds.read_fault.later;
        counted = λ failed. absurd (rw failed at comes.0);
        uncounted = λ other. minds.read_fault.uncounted (λ failed. cc);
      };
      read_at_most = minds.read_at_most;
      of_sink = of_sink;
    }

answer-late : (job : Answering) (blanks : Blanks) (given : Given) (w : Written) (ended : Status)
    → WroteAnswer job blanks given w ended → ComesBeforeWriting ended → ⊥
answer-late job blanks given w ended (inl (is, kept)) before = rw is at before
answer-late job blanks given w ended (inr (text, is, wrote)) before = Wrote-late text w ended wrote before

pub did-late : (answering : Option Answering) (task : Task) (d : Document) (blanks : Blanks) (w : Written)
    (ended : Status) (book : Option BookFacts) → DidJob answering task d blanks w ended book
    → ComesBeforeWriting ended → ⊥
did-late None task d blanks w ended book did before = RanDocument-late task d blanks w ended book did before
did-late (Some job) task d blanks w ended book did before = answer-late job blanks (untraced d) w ended did.1 before

-- ---- Of accepted words

run-never_words : (make : Option ℕ) (task : Task) (blanks : Blanks) (source source' : SourceFacts)
    (sink sink' : SinkFacts) (ended : Status) (book : Option BookFacts)
    → RunsFrom make task blanks source source' sink sink' ended book → ended ≡ status.BadWords → ⊥
run-never_words None task blanks source source' sink sink' ended book runs words = runs.never_words words
run-never_words (Some rounds) task blanks source source' sink sink' ended book runs words =
    rw words at runs.ran.of_bytes

-- no job ends as if its words were refused
pub job-never_words : (answering : Option Answering) (job : Job) (blanks : Blanks) (source source' : SourceFacts)
    (sink sink' : SinkFacts) (ended : Status) (book : Option BookFacts)
    → DoesJob answering job blanks source source' sink sink' ended book → ended ≡ status.BadWords → ⊥
job-never_words None job blanks source source' sink sink' ended book does words =
    run-never_words job.make (task_of job blanks) blanks source source' sink sink' ended book does words
job-never_words (Some answering) job blanks source source' sink sink' ended book does words = does.never_words words

-- so words that ask for a job are not refused
pub accepted-RefusesWords : {S K B : Type 0} (words : List (List ℕ)) (source source' : S) (sink sink' : K)
    (ended : Status) (book : Option B) (job : Job) → asked words ≡ Ok job
    → (ended ≡ status.BadWords → ⊥) → RefusesWords words source source' sink sink' ended book
accepted-RefusesWords words source source' sink sink' ended book job is never = record {
  alone = λ bad. absurd (never bad);
  refused = λ refused. cc;
  nothing_read = λ refused. cc;
  nothing_written = λ refused. cc;
  no_book = λ refused. cc;
}
