-- From reading a document, and its run, to what a run of a job promises.
use Rattle.std.proofs.Common.{◌≡◌, ℕ, ◌≤◌, List, [], length, Option, Some, None, Ok}
use Rattle.std.proofs.Common.{true, false, refl, sym, ap, ◌∙◌, inl, inr, ◌⊎◌, arith}
use Rattle.std.specs.Prelude.{IfSome, IsSome, Result, Err, nat_lt}
use Rattle.std.proofs.lemmas.Bool.Decides.{nat_tests}
use Rattle.std.specs.Io.KnownBytes.{IsAtEnd}
use Rattle.std.proofs.KnownBytes.{Consumes-nil, Keeps-refl}
use Rattle.outside_io.specs.Bytes.{GivesAll}
use Rattle.outside_io.specs.Faults.{IsToldAs, Rose}
use Rattle.cm_document.specs.declared.limits.TheConstants.{LONGEST_DOCUMENT}
use Rattle.cm_document.specs.Grammars.{whole_grammar}
use Rattle.cm_document.specs.Document.{document}
use Rattle.cm_document.specs.ScriptLaws.{MeetsRules}
use Rattle.cm_document.specs.declared.document.Document.{Document}
use Rattle.cm_document.specs.declared.faults.DocumentFault.{DocumentFault}
use Rattle.cm_document.specs.declared.faults.DocumentFault.TheVariants as document_fault
use Rattle.cm_model.specs.declared.blanks.Blanks.{Blanks}
use Rattle.make_document.specs.Made.{made}
use Rattle.make_document.specs.Meant.{made_document}
use Rattle.make_document.proofs.AcceptedLemmas.{made_is_accepted}
use Rattle.cm_words.specs.declared.job.TheConstants.{MOST_ROUNDS}
use Rattle.desk_jobs.specs.Book.{BookFacts}
use Rattle.cm_top.specs.Status.{IsShort}
use Rattle.cm_top.specs.Tasks.{Task}
use Rattle.cm_top.specs.Calls.Read.{ReadAs, EndsUnread, Reads, ReadsBytes, ReadsFrom, MindsSource}
use Rattle.cm_top.specs.Calls.Run.{SourceFacts, SinkFacts, MindsSink, MindsFaults, Runs, RunsMade, RunsFrom, written}
use Rattle.cm_top.specs.Status.{Written, EndedWith, HandsOut, Wrote, RanDocument, ComesOfBytes}
use Rattle.cm_top.specs.Status.{ComesBeforeWriting, status_of, status_of_document, status_of_fault}
use Rattle.document_text.specs.Plain.{IsPlainFault}
use Rattle.cm_top.specs.declared.status.Status.{Status}
use Rattle.cm_top.specs.declared.status.Status.TheVariants as status
use Rattle.document_text.proofs.RulesLemmas.{document-Rules}
use Rattle.cm_top.proofs.TopLemmas.{RanDocument-EndedWith, RanDocument-HandsOut}
use Rattle.cm_top.proofs.TopLemmas.{RanDocument-OfBytes, RanDocument-RunsBytes}

-- a fault that is told was counted
pub told-Rose : (fault ended : Status) (before now : ℕ) → IsToldAs fault ended before now → ended ≡ fault
    → Rose before now
told-Rose fault ended before now told is = let counted = told.counted is in rw counted (omega arith)

-- a document that is short has the status that its reading gives
pub short-status : (bytes : List ℕ) → length bytes ≤ LONGEST_DOCUMENT
    → status_of bytes ≡ status_of_document (document whole_grammar bytes)
short-status bytes short =
    let no : nat_lt LONGEST_DOCUMENT (length bytes) ≡ false = grind (arith, nat_tests) in rw no refl

-- where neither source nor sink had a fault, the bytes decide the status, unless memory runs out
pub EndedWith-exact : (task : Task) (bytes : List ℕ) (blanks : Blanks) (w : Written) (ended : Status)
    (book : Option BookFacts) (read write : Type 0)
    → EndedWith task bytes blanks w ended book → (ended ≡ status.ReadFault → read) → (ended ≡ status.WriteFault → write)
    → ¬ read → ¬ write → (ended ≡ status_of bytes) ⊎ (ended ≡ status.Memory)
EndedWith-exact task bytes blanks w status.Ok None read write ran rose risen still kept = absurd ran
EndedWith-exact task bytes blanks w status.Ok (Some book) read write ran rose risen still kept =
    inl (rw (short-status bytes ran.short, ran.accepted) refl)
EndedWith-exact task bytes blanks w status.BadWords book read write ran rose risen still kept = absurd ran
EndedWith-exact task bytes blanks w (status.BadDescription p) book read write ran rose risen still kept =
    inl (rw (short-status bytes ran.0, ran.1) refl)
EndedWith-exact task bytes blanks w (status.BadScript f) book read write ran rose risen still kept =
    inl (rw (short-status bytes ran.0, ran.1) refl)
EndedWith-exact task bytes blanks w status.ReadFault book read write ran rose risen still kept =
    absurd (still (rose refl))
EndedWith-exact task bytes blanks w status.TooLong book read write ran rose risen still kept =
    let long : nat_lt LONGEST_DOCUMENT (length bytes) ≡ true = grind (arith, nat_tests) in inl (rw long refl)
EndedWith-exact task bytes blanks w status.Memory book read write ran rose risen still kept = inr refl
EndedWith-exact task bytes blanks w status.WriteFault book read write ran rose risen still kept =
    absurd (kept (risen refl))
EndedWith-exact task bytes blanks w (status.NotLegal line expected) book read write ran rose risen still kept =
    absurd ran
EndedWith-exact task bytes blanks w (status.CannotSpawn reason) book read write ran rose risen still kept = absurd ran

-- a made document goes well, unless the sink fails or memory runs out: it is accepted
pub made-exact : (task : Task) (rounds : ℕ) (blanks : Blanks) (w : Written) (ended : Status) (book : Option BookFacts)
    (write : Type 0) → rounds ≤ 1000
    → EndedWith task (made rounds) blanks w ended book → ComesOfBytes ended → (ended ≡ status.WriteFault → write)
    → ¬ write → (ended ≡ status.Ok) ⊎ (ended ≡ status.Memory)
made-exact task rounds blanks w status.Ok book write few ran comes rose kept = inl refl
made-exact task rounds blanks w status.BadWords book write few ran comes rose kept = absurd comes
made-exact task rounds blanks w (status.BadDescription p) book write few ran comes rose kept =
    let no : Ok (made_document rounds) ≡ Err (document_fault.Description p) =
    sym (made_is_accepted rounds few) ∙ ran.1 in cc
made-exact task rounds blanks w (status.BadScript f) book write few ran comes rose kept =
    let no : Ok (made_document rounds) ≡ Err (document_fault.Script f) = sym (made_is_accepted rounds few) ∙ ran.1 in cc
made-exact task rounds blanks w status.ReadFault book write few ran comes rose kept = absurd comes
made-exact task rounds blanks w status.TooLong book write few ran comes rose kept = absurd comes
made-exact task rounds blanks w status.Memory book write few ran comes rose kept = inr refl
made-exact task rounds blanks w status.WriteFault book write few ran comes rose kept = absurd (kept (rose refl))
made-exact task rounds blanks w (status.NotLegal line expected) book write few ran comes rose kept = absurd ran
made-exact task rounds blanks w (status.CannotSpawn reason) book write few ran comes rose kept = absurd ran

-- what was read whole is what the source told
pub read-EndedWith : (left left' : Option (List ℕ)) (bytes : List ℕ) (P : List ℕ → Type 0) → GivesAll left left' bytes
    → P bytes → IfSome left P
read-EndedWith None left' bytes P whole p = tt
read-EndedWith (Some told) left' bytes P whole p = rw whole.0 p

-- then nothing is left
pub read-end : (left left' : Option (List ℕ)) (bytes : List ℕ) → GivesAll left left' bytes → IsSome left → IsAtEnd left'
read-end None left' bytes whole told = cc
read-end (Some told) left' bytes whole is_told = rw whole.1 refl

-- bytes that are known say by themselves that it ends unread
read-EndsUnread : (bytes : List ℕ) (ended : Status) → ReadAs bytes (Err ended) → EndsUnread ended
read-EndsUnread bytes status.Ok read = absurd read
read-EndsUnread bytes status.BadWords read = absurd read
read-EndsUnread bytes (status.BadDescription p) read = tt
read-EndsUnread bytes (status.BadScript f) read = tt
read-EndsUnread bytes status.ReadFault read = tt
read-EndsUnread bytes status.TooLong read = tt
read-EndsUnread bytes status.Memory read = tt
read-EndsUnread bytes status.WriteFault read = absurd read
read-EndsUnread bytes (status.NotLegal line expected) read = absurd read
read-EndsUnread bytes (status.CannotSpawn reason) read = absurd read

-- A source that was read whole was read as its bytes were.
pub bytes_Reads : (source source' : SourceFacts) (bytes : List ℕ) (result : Result Document Status)
    → GivesAll source.left source'.left bytes → ReadsBytes bytes result
    → Reads source source' result
bytes_Reads source source' bytes (Ok d) whole reads = record {
  read = read-EndedWith source.left source'.left bytes (λ (known : List ℕ). ReadAs known (Ok d)) whole reads.read;
  accepted = (bytes, reads.read);
  read_whole = λ told. read-end source.left source'.left bytes whole told;
  unread = tt;
  plain = tt;
}
bytes_Reads source source' bytes (Err ended) whole reads = record {
  read = read-EndedWith source.left source'.left bytes (λ (known : List ℕ). ReadAs known (Err ended)) whole reads.read;
  accepted = tt;
  read_whole = tt;
  unread = read-EndsUnread bytes ended reads.read;
  plain = reads.plain;
}

-- ---- Reading the document

-- a run that has no document ends so, with nothing written
unread-EndedWith : (task : Task) (bytes : List ℕ) (blanks : Blanks) (taken : Option (List ℕ)) (flushed : Option ℕ)
    (ended : Status)
    → ReadAs bytes (Err ended)
    → EndedWith task bytes blanks (record { old = taken; new = taken; flushed = flushed }) ended None
unread-EndedWith task bytes blanks taken flushed status.Ok read = absurd read
unread-EndedWith task bytes blanks taken flushed status.BadWords read = absurd read
unread-EndedWith task bytes blanks taken flushed (status.BadDescription p) read = read
unread-EndedWith task bytes blanks taken flushed (status.BadScript f) read = read
unread-EndedWith task bytes blanks taken flushed status.ReadFault read = tt
unread-EndedWith task bytes blanks taken flushed status.TooLong read = read
unread-EndedWith task bytes blanks taken flushed status.Memory read = Keeps-refl taken
unread-EndedWith task bytes blanks taken flushed status.WriteFault read = absurd read
unread-EndedWith task bytes blanks taken flushed (status.NotLegal line expected) read = absurd read
unread-EndedWith task bytes blanks taken flushed (status.CannotSpawn reason) read = absurd read

-- and hands out no book
unread-HandsOut : (task : Task) (blanks : Blanks) (taken : Option (List ℕ)) (flushed : Option ℕ) (ended : Status)
    → EndsUnread ended
    → HandsOut task blanks (record { old = taken; new = taken; flushed = flushed }) ended None
unread-HandsOut task blanks taken flushed status.Ok unread = absurd unread
unread-HandsOut task blanks taken flushed status.BadWords unread = refl
unread-HandsOut task blanks taken flushed (status.BadDescription p) unread = refl
unread-HandsOut task blanks taken flushed (status.BadScript f) unread = refl
unread-HandsOut task blanks taken flushed status.ReadFault unread = refl
unread-HandsOut task blanks taken flushed status.TooLong unread = refl
unread-HandsOut task blanks taken flushed status.Memory unread = Keeps-refl taken
unread-HandsOut task blanks taken flushed status.WriteFault unread = absurd unread
unread-HandsOut task blanks taken flushed (status.NotLegal line expected) unread = absurd unread
unread-HandsOut task blanks taken flushed (status.CannotSpawn reason) unread = absurd unread

-- what is so where the bytes are known, of whatever bytes
pub some_known : (known : Option (List ℕ)) (P Q : List ℕ → Type 0) → ((bytes : List ℕ) → P bytes → Q bytes)
    → IfSome known P → IfSome known Q
some_known None P Q all given = tt
some_known (Some bytes) P Q all given = all bytes given

-- a fault of reading that is told was counted
pub read-Rose : (source source' : SourceFacts) (ended : Status) → MindsSource source source' (Err ended)
    → ended ≡ status.ReadFault → Rose source.faults source'.faults
read-Rose source source' ended minds failed =
    let counted = minds.read_fault.counted (ap (λ (e : Status). Err e) failed) in rw counted (omega arith)

-- A run without a document ends with nothing written,
unread-Runs : (task : Task) (blanks : Blanks) (source source' : SourceFacts) (sink : SinkFacts) (ended : Status)
    → Reads source source' (Err ended) → MindsSource source source' (Err ended)
    → Runs task blanks source source' sink sink ended None
unread-Runs task blanks source source' sink ended reads minds =
    let w : Written = record { old = sink.taken; new = sink.taken; flushed = sink.flushed } in
    record {
      ran = some_known source.left _ _
          (λ bytes read. unread-EndedWith task bytes blanks sink.taken sink.flushed ended read) reads.read;
      handed_out = unread-HandsOut task blanks sink.taken sink.flushed ended reads.unread;
      never_words = λ words. rw words at reads.unread;
      read_whole = λ well told. absurd (rw well at reads.unread);
      plain = reads.plain;
      exact = some_known source.left _ _
          (λ bytes read. EndedWith-exact task bytes blanks w ended None (Rose source.faults source'.faults)
          (Rose sink.faults sink.faults)
          (unread-EndedWith task bytes blanks sink.taken sink.flushed ended read) (read-Rose source source' ended minds)
          (λ failed. absurd (rw failed at reads.unread))) reads.read;
    }

-- and so it does where its document was to be made.
unread-RunsMade : (task : Task) (blanks : Blanks) (rounds : ℕ) (sink : SinkFacts) (ended : Status)
    → rounds ≤ MOST_ROUNDS → ReadsBytes (made rounds) (Err ended)
    → RunsMade task blanks rounds sink sink ended None
unread-RunsMade task blanks rounds sink ended few reads =
    let w : Written = record { old = sink.taken; new = sink.taken; flushed = sink.flushed } in
    let unread = read-EndsUnread (made rounds) ended reads.read in
    let ran = unread-EndedWith task (made rounds) blanks sink.taken sink.flushed ended reads.read in
    record {
      ran = record {
        ran = ran;
        handed_out = unread-HandsOut task blanks sink.taken sink.flushed ended unread;
        of_bytes =
            reads.of_bytes;
        plain = reads.plain;
      };
      exact = made-exact task rounds blanks w ended None (Rose sink.faults sink.faults) (omega (arith, few)) ran
          reads.of_bytes (λ failed. absurd (rw failed at unread));
    }

-- Wherever the document was to come from, it ends so.
pub unread-RunsFrom : (make : Option ℕ) (task : Task) (blanks : Blanks) (source source' : SourceFacts)
    (sink : SinkFacts) (ended : Status)
    → IfSome make (λ rounds. (1 ≤ rounds) × (rounds ≤ MOST_ROUNDS)) → ReadsFrom make source source' (Err ended)
    → MindsSource source source' (Err ended)
    → RunsFrom make task blanks source source' sink sink ended None
unread-RunsFrom None task blanks source source' sink ended few reads minds =
    unread-Runs task blanks source source' sink ended reads minds
unread-RunsFrom (Some rounds) task blanks source source' sink ended few reads minds =
    unread-RunsMade task blanks rounds sink ended few.1 reads

-- A run of a document that was read is one of the bytes of its source,
ran-Runs : (task : Task) (blanks : Blanks) (source source' : SourceFacts) (d : Document) (sink sink' : SinkFacts)
    (ended : Status) (book : Option BookFacts)
    → Reads source source' (Ok d) → RanDocument task d blanks (written sink sink') ended book
    → IsToldAs status.WriteFault ended sink.faults sink'.faults
    → Runs task blanks source source' sink sink' ended book
ran-Runs task blanks source source' d sink sink' ended book reads ran told =
    let w : Written = written sink sink' in
    let comes = RanDocument-OfBytes task d blanks w ended book ran in
    let its = reads.accepted in
    record {
      ran = some_known source.left _ _
          (λ bytes read. RanDocument-EndedWith task bytes d blanks w ended book read.0 read.1 ran) reads.read;
      handed_out = RanDocument-HandsOut task its.0 d blanks w ended book its.1.0 its.1.1 ran;
      never_words = λ words. rw words at comes.0;
      read_whole = λ well. reads.read_whole;
      plain = comes.1;
      exact = some_known source.left _ _
          (λ bytes read. EndedWith-exact task bytes blanks w ended book (Rose source.faults source'.faults)
          (Rose sink.faults sink'.faults)
          (RanDocument-EndedWith task bytes d blanks w ended book read.0 read.1 ran)
          (λ failed. absurd (rw failed at comes.0))
          (told-Rose status.WriteFault ended sink.faults sink'.faults told)) reads.read;
    }

-- and one of a made document is one of that.
ran-RunsMade : (task : Task) (blanks : Blanks) (rounds : ℕ) (d : Document) (sink sink' : SinkFacts) (ended : Status)
    (book : Option BookFacts) → rounds ≤ MOST_ROUNDS
    → ReadsBytes (made rounds) (Ok d) → RanDocument task d blanks (written sink sink') ended book
    → IsToldAs status.WriteFault ended sink.faults sink'.faults
    → RunsMade task blanks rounds sink sink' ended book
ran-RunsMade task blanks rounds d sink sink' ended book few reads ran told =
    let bytes = RanDocument-RunsBytes task blanks (made rounds) d sink sink' ended book reads.read.0 reads.read.1 ran in
    record {
      ran = bytes;
      exact = made-exact task rounds blanks (written sink sink') ended book (Rose sink.faults sink'.faults)
          (omega (arith, few)) bytes.ran bytes.of_bytes
          (told-Rose status.WriteFault ended sink.faults sink'.faults told);
    }

-- Wherever the document came from, its run is what its job promises.
pub ran-RunsFrom : (make : Option ℕ) (task : Task) (blanks : Blanks) (source source' : SourceFacts) (d : Document)
    (sink sink' : SinkFacts) (ended : Status) (book : Option BookFacts)
    → IfSome make (λ rounds. (1 ≤ rounds) × (rounds ≤ MOST_ROUNDS)) → ReadsFrom make source source' (Ok d)
    → RanDocument task d blanks (written sink sink') ended book
    → IsToldAs status.WriteFault ended sink.faults sink'.faults
    → RunsFrom make task blanks source source' sink sink' ended book
ran-RunsFrom None task blanks source source' d sink sink' ended book few reads ran told =
    ran-Runs task blanks source source' d sink sink' ended book reads ran told
ran-RunsFrom (Some rounds) task blanks source source' d sink sink' ended book few reads ran told =
    ran-RunsMade task blanks rounds d sink sink' ended book few.1 reads ran told

-- The script of a document that was read meets the rules.
pub reads-Rules : (make : Option ℕ) (source source' : SourceFacts) (d : Document) → ReadsFrom make source source' (Ok d)
    → MeetsRules d.script
reads-Rules None source source' d reads = (document-Rules reads.accepted.0 d reads.accepted.1.1).0
reads-Rules (Some rounds) source source' d reads = (document-Rules (made rounds) d reads.read.1).0

same_fault : (ended : Status) → ◌≡◌ {A = Result Document Status} (Err ended) (Err status.ReadFault)
    → ended ≡ status.ReadFault
same_fault ended same = cc

reads-EndsUnread : (make : Option ℕ) (source source' : SourceFacts) (ended : Status)
    → ReadsFrom make source source' (Err ended) → EndsUnread ended
reads-EndsUnread None source source' ended reads = reads.unread
reads-EndsUnread (Some rounds) source source' ended reads = read-EndsUnread (made rounds) ended reads.read

-- ---- Faults from outside

-- where nothing was written, no fault of writing is told
pub unwritten_minds_sink : (sink : SinkFacts) (ended : Status) → (ended ≡ status.WriteFault → ⊥)
    → MindsSink sink sink ended
unwritten_minds_sink sink ended none = record {
  write_fault = record { later = omega arith; counted = λ failed. absurd (none failed); uncounted = λ other. refl };
  unflushed = λ other. refl;
}

-- A run without a document tells the faults of reading.
pub unread-MindsFaults : (make : Option ℕ) (source source' : SourceFacts) (sink : SinkFacts) (ended : Status)
    → ReadsFrom make source source' (Err ended) → MindsSource source source' (Err ended)
    → MindsFaults source source' sink sink ended
unread-MindsFaults make source source' sink ended reads minds =
    let unread = reads-EndsUnread make source source' ended reads in
    record {
      read_fault = record {
        later = minds.read_fault.later;
        counted = λ failed. minds.read_fault.counted (ap (λ (e : Status). Err e) failed);
        uncounted = λ other. minds.read_fault.uncounted (λ failed. other (same_fault ended failed));
      };
      read_at_most = minds.read_at_most;
      of_sink = unwritten_minds_sink sink ended (λ failed. rw failed at unread);
    }

-- One of a document tells those of writing.
pub ran-MindsFaults : (task : Task) (blanks : Blanks) (source source' : SourceFacts) (d : Document)
    (sink sink' : SinkFacts) (ended : Status) (book : Option BookFacts)
    → MindsSource source source' (Ok d) → RanDocument task d blanks (written sink sink') ended book
    → MindsSink sink sink' ended → MindsFaults source source' sink sink' ended
ran-MindsFaults task blanks source source' d sink sink' ended book minds ran of_sink =
    let comes = RanDocument-OfBytes task d blanks (written sink sink') ended book ran in
    record {
      read_fault = record {
        later = minds.read_fault.later;
        counted = λ failed. absurd (rw failed at comes.0);
        uncounted = λ other. minds.read_fault.uncounted (λ failed. cc);
      };
      read_at_most = minds.read_at_most;
      of_sink = of_sink;
    }

pub Wrote-late : (text : List ℕ) (w : Written) (ended : Status) → Wrote text w ended → ComesBeforeWriting ended → ⊥
Wrote-late text w status.Ok wrote before = before
Wrote-late text w status.Memory wrote before = before
Wrote-late text w status.WriteFault wrote before = before
Wrote-late text w _ wrote before = wrote

-- Its status does not come before writing.
pub RanDocument-late : (task : Task) (d : Document) (blanks : Blanks) (w : Written) (ended : Status)
    (book : Option BookFacts) → RanDocument task d blanks w ended book → ComesBeforeWriting ended → ⊥
RanDocument-late task d blanks w ended None ran before = rw ran.0 at before
RanDocument-late task d blanks w ended (Some book) ran before =
    Wrote-late (task.text d book.history) w ended ran.1 before

-- ---- Before the document

-- a status that is no fault of reading or writing
abbrev pub IsNoFault : Status → Type 0
IsNoFault status.ReadFault = ⊥
IsNoFault status.WriteFault = ⊥
IsNoFault _ = Unit {0}

-- where nothing was read either, no fault is told
pub untouched_minds_faults : (source : SourceFacts) (sink : SinkFacts) (ended : Status) → IsNoFault ended
    → MindsFaults source source sink sink ended
untouched_minds_faults source sink ended none = record {
  read_fault =
      record { later = omega arith; counted = λ failed. absurd (rw failed at none); uncounted = λ other. refl };
  read_at_most = ([], omega arith, Consumes-nil source.left);
  of_sink = unwritten_minds_sink sink ended (λ failed. rw failed at none);
}

-- bytes that are not accepted are read as their first fault
pub fault-ReadsBytes : (bytes : List ℕ) (f : DocumentFault) → IsShort bytes
    → ((f ≡ document_fault.Memory → ⊥) → document whole_grammar bytes ≡ Err f) → IsPlainFault f
    → ReadsBytes bytes (Err (status_of_fault f))
fault-ReadsBytes bytes (document_fault.Description p) short refused plain =
    record { read = (short, refused (λ memory. cc)); of_bytes = tt; plain = plain }
fault-ReadsBytes bytes (document_fault.Script f) short refused plain =
    record { read = (short, refused (λ memory. cc)); of_bytes = tt; plain = plain }
fault-ReadsBytes bytes document_fault.Memory short refused plain = record { read = tt; of_bytes = tt; plain = tt }
