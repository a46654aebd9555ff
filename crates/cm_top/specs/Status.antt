-- The numbers of the statuses, and what each says of the run that ended so.
use Rattle.std.specs.Prelude.{◌≡◌, ℕ, ◌<◌, ◌≤◌, List, Option, Some, None, Result, Ok, Err, length, nat_lt}
use Rattle.std.specs.Prelude.{if◌then◌else◌, IsSomeAnd}
use Rattle.std.specs.Io.KnownBytes.{Keeps, Appends}
use Rattle.outside_io.specs.Bytes.{AllFlushed, AppendsPrefix}
use Rattle.cm_document.specs.declared.limits.TheConstants.{LONGEST_DOCUMENT}
use Rattle.cm_document.specs.Document.{document}
use Rattle.cm_document.specs.Grammars.{whole_grammar}
use Rattle.cm_document.specs.declared.document.Document.{Document}
use Rattle.cm_document.specs.declared.faults.DocumentFault.{DocumentFault}
use Rattle.cm_document.specs.declared.faults.DocumentFault.TheVariants as fault
use Rattle.cm_model.specs.declared.blanks.Blanks.{Blanks}
use Rattle.desk_jobs.specs.Book.{BookFacts, IsBookOf}
use Rattle.cm_top.specs.Tasks.{Task}
use Rattle.document_text.specs.Plain.{IsPlainFault}
use Rattle.spawn_plan.specs.declared.fault.SpawnFault.TheVariants as spawn_fault
use Rattle.cm_top.specs.declared.status.Status.{Status}
use Rattle.cm_top.specs.declared.status.Status.TheVariants as status

-- the number that the program ends with
abbrev pub code_of : Status → ℕ
code_of status.Ok = 0
code_of status.BadWords = 2
code_of (status.BadDescription _) = 3
code_of (status.BadScript _) = 4
code_of status.ReadFault = 5
code_of status.TooLong = 6
code_of status.Memory = 7
code_of status.WriteFault = 8
code_of (status.NotLegal _ _) = 9
code_of (status.CannotSpawn _) = 10

-- no longer than a document may be
abbrev pub IsShort : List ℕ → Type 0
IsShort bytes = length bytes ≤ LONGEST_DOCUMENT

-- What a run has before it and after it: what the sink had taken and has taken, and how much of that is flushed.
pub record Written : Type 0 where
  pub old : Option (List ℕ)
  pub new : Option (List ℕ)
  pub flushed : Option ℕ

-- A run that went well: the bytes are an accepted document; the book is that of its run; and the sink has grown by
-- exactly the text that the task has of the book's history, all of it flushed.
pub record Printed (task : Task) (bytes : List ℕ) (blanks : Blanks) (w : Written) (book : BookFacts) : Type 0 where
  pub document_is : Document
  pub short : IsShort bytes
  pub accepted : document whole_grammar bytes ≡ Ok document_is
  pub book_is : IsBookOf task.history blanks document_is book
  pub taken : Appends w.old w.new (task.text document_is book.history)
  pub all_flushed : AllFlushed w.new w.flushed

-- A run that was cut short while it wrote: the sink has grown by a front of that text.
pub record Cut (task : Task) (bytes : List ℕ) (blanks : Blanks) (w : Written) (book : BookFacts) : Type 0 where
  pub document_is : Document
  pub short : IsShort bytes
  pub accepted : document whole_grammar bytes ≡ Ok document_is
  pub book_is : IsBookOf task.history blanks document_is book
  pub taken : AppendsPrefix w.old w.new (task.text document_is book.history)

-- Want of memory: without a book nothing was written, with one a front of its text.
abbrev pub WantsMemory : Task → List ℕ → Blanks → Written → Option BookFacts → Type 0
WantsMemory task bytes blanks w None = Keeps w.old w.new
WantsMemory task bytes blanks w (Some book) = Cut task bytes blanks w book

-- What a run over these bytes says by its status, where this was the task. Each refusal names the document's first
-- fault, exactly.
abbrev pub EndedWith : Task → List ℕ → Blanks → Written → Status → Option BookFacts → Type 0
EndedWith task bytes blanks w status.Ok book = IsSomeAnd book (Printed task bytes blanks w)
EndedWith task bytes blanks w status.BadWords book = ⊥
EndedWith task bytes blanks w (status.BadDescription p) book =
    IsShort bytes × (document whole_grammar bytes ≡ Err (fault.Description p))
EndedWith task bytes blanks w (status.BadScript f) book =
    IsShort bytes × (document whole_grammar bytes ≡ Err (fault.Script f))
EndedWith task bytes blanks w status.ReadFault book = Unit {0}
EndedWith task bytes blanks w status.TooLong book = LONGEST_DOCUMENT < length bytes
EndedWith task bytes blanks w status.Memory book = WantsMemory task bytes blanks w book
EndedWith task bytes blanks w status.WriteFault book = IsSomeAnd book (Cut task bytes blanks w)
EndedWith task bytes blanks w (status.NotLegal _ _) book = ⊥
EndedWith task bytes blanks w (status.CannotSpawn _) book = ⊥

-- What a run handed out and wrote by its status, whatever its source tells. Ok and a write fault come with a book, want
-- of memory may, and no other status does. A book is that of a run of an accepted document, and the sink has grown by
-- all of the text of its history where the run went well, else by a front of it. Where memory ran out and no book came,
-- nothing was written.
abbrev pub HandsOut : Task → Blanks → Written → Status → Option BookFacts → Type 0
HandsOut task blanks w status.Ok book = IsSomeAnd book (λ b. (bytes : List ℕ) × Printed task bytes blanks w b)
HandsOut task blanks w status.WriteFault book = IsSomeAnd book (λ b. (bytes : List ℕ) × Cut task bytes blanks w b)
HandsOut task blanks w status.Memory None = Keeps w.old w.new
HandsOut task blanks w status.Memory (Some book) = (bytes : List ℕ) × Cut task bytes blanks w book
HandsOut task blanks w _ book = book ≡ None

-- the status that tells a fault of a document
abbrev pub status_of_fault : DocumentFault → Status
status_of_fault (fault.Description p) = status.BadDescription p
status_of_fault (fault.Script f) = status.BadScript f
status_of_fault fault.Memory = status.Memory

-- The status that a document asks for, where it can be read and written: its first fault, or all of its trace.
abbrev pub status_of_document : Result Document DocumentFault → Status
status_of_document (Ok d) = status.Ok
status_of_document (Err f) = status_of_fault f

-- The length comes first, then the description, then the script.
abbrev pub status_of : List ℕ → Status
status_of bytes =
    if nat_lt LONGEST_DOCUMENT (length bytes) then status.TooLong else status_of_document (document whole_grammar bytes)

-- the statuses that come before anything is written
abbrev pub ComesBeforeWriting : Status → Type 0
ComesBeforeWriting status.Ok = ⊥
ComesBeforeWriting status.Memory = ⊥
ComesBeforeWriting status.WriteFault = ⊥
ComesBeforeWriting _ = Unit {0}

-- Want of memory is a status of its own: no refusal carries it.
abbrev pub IsPlain : Status → Type 0
IsPlain (status.BadDescription p) = IsPlainFault (fault.Description p)
IsPlain (status.BadScript f) = IsPlainFault (fault.Script f)
IsPlain (status.CannotSpawn spawn_fault.Memory) = ⊥
IsPlain _ = Unit {0}

-- What writing a text came to by the status: all of it taken and flushed, or a front of it.
abbrev pub Wrote : List ℕ → Written → Status → Type 0
Wrote text w status.Ok = Appends w.old w.new text × AllFlushed w.new w.flushed
Wrote text w status.Memory = AppendsPrefix w.old w.new text
Wrote text w status.WriteFault = AppendsPrefix w.old w.new text
Wrote text w _ = ⊥

-- What a run of an accepted document came to: without a book memory ran out before anything was written; with one the
-- text of its history was written.
abbrev pub RanDocument : Task → Document → Blanks → Written → Status → Option BookFacts → Type 0
RanDocument task d blanks w ended None = (ended ≡ status.Memory) × Keeps w.old w.new
RanDocument task d blanks w ended (Some book) =
    IsBookOf task.history blanks d book × Wrote (task.text d book.history) w ended

-- the statuses that a run can come to once its bytes are read
abbrev pub ComesOfBytes : Status → Type 0
ComesOfBytes status.BadWords = ⊥
ComesOfBytes status.ReadFault = ⊥
ComesOfBytes status.TooLong = ⊥
ComesOfBytes _ = Unit {0}
