-- Jobs that answer a document without a run, and so without a book.
use Rattle.std.specs.Prelude.{◌≡◌, ◌⊎◌, ℕ, ◌<◌, nat_lt, if◌then◌else◌, List, [], length, codes, Option, Some, None}
use Rattle.std.specs.Prelude.{Result, Ok, Err}
use Rattle.std.specs.Io.KnownBytes.{Keeps, Appends}
use Rattle.outside_io.specs.Bytes.{AllFlushed, AppendsPrefix}
use Rattle.cm_document.specs.CallText.{script_text}
use Rattle.cm_document.specs.Described.{tree_of, description_in}
use Rattle.cm_document.specs.Document.{document}
use Rattle.cm_document.specs.Grammars.{whole_grammar}
use Rattle.cm_document.specs.Reading.{◌>>=◌}
use Rattle.cm_document.specs.declared.document.Document.{Document}
use Rattle.cm_document.specs.declared.faults.DocumentFault.{DocumentFault}
use Rattle.cm_document.specs.declared.faults.DocumentFault.TheVariants as fault
use Rattle.cm_document.specs.declared.limits.TheConstants.{LONGEST_DOCUMENT, SECOND_VERSION}
use Rattle.cm_words.specs.declared.job.JobKind.{JobKind}
use Rattle.cm_words.specs.declared.job.JobKind.TheVariants as kind
use Rattle.cm_model.specs.declared.blanks.Blanks.{Blanks}
use Rattle.spawn_plan.specs.Plan.{spawned}
use Rattle.spawn_plan.specs.declared.fault.SpawnFault.{SpawnFault}
use Rattle.trace_laws.specs.Judged.{judged}
use Rattle.trace_laws.specs.Told.{IsTold, IsWrong, WrongLine}
use Rattle.desk_jobs.specs.Book.{BookFacts}
use Rattle.cm_top.specs.Tasks.{Task}
use Rattle.cm_top.specs.Status.{IsShort}
use Rattle.cm_top.specs.Status.{Written, Wrote, RanDocument, status_of_document}
use Rattle.document_text.specs.Traced.{Given, traced}
use Rattle.document_text.specs.Wished.{wanted_in, wished}
use Rattle.cm_top.specs.declared.answer.Question.{Question}
use Rattle.cm_top.specs.declared.answer.Question.TheVariants as question
use Rattle.cm_top.specs.declared.status.Status.{Status}
use Rattle.cm_top.specs.declared.status.Status.TheVariants as status

-- The jobs that answer so.
pub data Answering : Type 0 where
  upgrading : Answering
  checking : Answering
  planning : Answering

-- the answering of a job that has no book
abbrev pub answering_of : JobKind → Option Answering
answering_of kind.Upgrade = Some upgrading
answering_of kind.Check = Some checking
answering_of kind.Plan = Some planning
answering_of _ = None

-- and of a job that reads a document of its own
abbrev pub answering : Question → Answering
answering question.Check = checking
answering question.Plan = planning

-- ---- What each promises

-- a document that is read for a job without a trace
abbrev pub untraced : Document → Given
untraced d = record { document = d; trace = [] }

-- What the bytes are accepted as, or their first fault: a check reads the trace behind the script, too, and the script
-- of a plan is a wish.
abbrev pub accepted_by : Answering → List ℕ → Result Given DocumentFault
accepted_by upgrading bytes = document whole_grammar bytes >>= λ d. Ok (untraced d)
accepted_by checking bytes = traced bytes
accepted_by planning bytes = wished bytes >>= λ d. Ok (untraced d)

-- the text of the script that starts the controllers which a plan's document wants, or why there is none
unfoldable pub planned_text : Document → Blanks → Result (List ℕ) SpawnFault
planned_text d blanks = spawned d.description blanks (wanted_in d.script) >>= λ script. Ok (script_text script)

-- Which texts answer what was given, over these blanks. To an upgrade those that are read as its description, with the
-- second version. To a check `legal`, if the trace is that of a legal, whole history of the document. To a plan the
-- text of the script that starts the wanted controllers.
abbrev pub IsAnswer : Answering → Blanks → Given → List ℕ → Type 0
IsAnswer upgrading blanks given text =
    description_in (tree_of text) ≡ Ok (record given.document.description { version = SECOND_VERSION })
IsAnswer checking blanks given text = IsTold given.document blanks given.trace × (text ≡ codes "legal\n")
IsAnswer planning blanks given text = planned_text given.document blanks ≡ Ok text

-- Which status refuses what was given. An upgrade refuses nothing. A check refuses a trace that no such history has, at
-- its first wrong line. A plan refuses names for which there is no such script, with the first reason.
abbrev pub Refuses : Answering → Blanks → Given → Status → Type 0
Refuses checking blanks given (status.NotLegal line expected) =
    IsWrong given.document blanks given.trace (record { line = line; expected = expected })
Refuses planning blanks given (status.CannotSpawn fault) = planned_text given.document blanks ≡ Err fault
Refuses _ blanks given _ = ⊥

-- ---- Over known bytes

-- The bytes are accepted, and the sink has grown by an answer to them, all of it flushed.
pub record Answered (job : Answering) (blanks : Blanks) (bytes : List ℕ) (w : Written) : Type 0 where
  pub given : Given
  pub short : IsShort bytes
  pub accepted : accepted_by job bytes ≡ Ok given
  pub text : List ℕ
  pub is_answer : IsAnswer job blanks given text
  pub taken : Appends w.old w.new text
  pub all_flushed : AllFlushed w.new w.flushed

-- The same cut short: the sink has grown by a front of an answer.
pub record IsCutShort (job : Answering) (blanks : Blanks) (bytes : List ℕ) (w : Written) : Type 0 where
  pub given : Given
  pub short : IsShort bytes
  pub accepted : accepted_by job bytes ≡ Ok given
  pub text : List ℕ
  pub is_answer : IsAnswer job blanks given text
  pub taken : AppendsPrefix w.old w.new text

-- The bytes are accepted, and the job refuses them with this status.
pub record IsRefused (job : Answering) (blanks : Blanks) (bytes : List ℕ) (ended : Status) : Type 0 where
  pub given : Given
  pub short : IsShort bytes
  pub accepted : accepted_by job bytes ≡ Ok given
  pub refuses : Refuses job blanks given ended

-- What such a job says of these bytes by its status. Each refusal names the document's first fault, exactly.
abbrev pub AnsweredWith : Answering → Blanks → List ℕ → Written → Status → Type 0
AnsweredWith job blanks bytes w status.Ok = Answered job blanks bytes w
AnsweredWith job blanks bytes w status.BadWords = ⊥
AnsweredWith job blanks bytes w (status.BadDescription p) =
    IsShort bytes × (accepted_by job bytes ≡ Err (fault.Description p))
AnsweredWith job blanks bytes w (status.BadScript f) =
    IsShort bytes × (accepted_by job bytes ≡ Err (fault.Script f))
AnsweredWith job blanks bytes w status.ReadFault = Unit {0}
AnsweredWith job blanks bytes w status.TooLong = LONGEST_DOCUMENT < length bytes
AnsweredWith job blanks bytes w status.Memory = Keeps w.old w.new ⊎ IsCutShort job blanks bytes w
AnsweredWith job blanks bytes w status.WriteFault = IsCutShort job blanks bytes w
AnsweredWith job blanks bytes w (status.NotLegal line expected) =
    IsRefused job blanks bytes (status.NotLegal line expected)
AnsweredWith job blanks bytes w (status.CannotSpawn fault) =
    IsRefused job blanks bytes (status.CannotSpawn fault)

-- What it wrote by its status, whatever its source tells.
abbrev pub Answers : Answering → Blanks → Written → Status → Type 0
Answers job blanks w status.Ok = (bytes : List ℕ) × Answered job blanks bytes w
Answers job blanks w status.WriteFault = (bytes : List ℕ) × IsCutShort job blanks bytes w
Answers job blanks w status.Memory = Keeps w.old w.new ⊎ ((bytes : List ℕ) × IsCutShort job blanks bytes w)
Answers job blanks w (status.NotLegal line expected) =
    (bytes : List ℕ) × IsRefused job blanks bytes (status.NotLegal line expected)
Answers job blanks w (status.CannotSpawn fault) =
    (bytes : List ℕ) × IsRefused job blanks bytes (status.CannotSpawn fault)
Answers job blanks w _ = Unit {0}

-- ---- The status that bytes ask for

-- the status of a judgement
abbrev pub status_of_judgement : Result (Unit {0}) WrongLine → Status
status_of_judgement (Ok _) = status.Ok
status_of_judgement (Err wrong) = status.NotLegal wrong.line wrong.expected

-- the status of a plan
abbrev pub status_of_plan : Result (List ℕ) SpawnFault → Status
status_of_plan (Ok _) = status.Ok
status_of_plan (Err fault) = status.CannotSpawn fault

-- that of what was given: an upgrade goes well, a check does if the trace is judged to be one, and a plan if there is a
-- script
abbrev pub status_of_given : Answering → Blanks → Given → Status
status_of_given upgrading blanks given = status.Ok
status_of_given checking blanks given = status_of_judgement (judged given.document blanks given.trace)
status_of_given planning blanks given = status_of_plan (planned_text given.document blanks)

-- that of what is accepted, or of its first fault
abbrev pub status_of_accepted : Answering → Blanks → Result Given DocumentFault → Status
status_of_accepted job blanks (Ok given) = status_of_given job blanks given
status_of_accepted job blanks (Err fault) = status_of_document (Err fault)

-- The status that bytes ask for where they can be read and the answer written. The length comes first.
abbrev pub status_for : Answering → Blanks → List ℕ → Status
status_for job blanks bytes =
    if nat_lt LONGEST_DOCUMENT (length bytes) then status.TooLong
    else status_of_accepted job blanks (accepted_by job bytes)

-- ---- Over an accepted document

-- Memory ran out and nothing was written, or writing an answer came to this.
abbrev pub WroteAnswer : Answering → Blanks → Given → Written → Status → Type 0
WroteAnswer job blanks given w ended =
    ((ended ≡ status.Memory) × Keeps w.old w.new)
    ⊎ ((text : List ℕ) × IsAnswer job blanks given text × Wrote text w ended)

-- What a job came to: a run to its book, or an answer without one.
abbrev pub DidJob : Option Answering → Task → Document → Blanks → Written → Status → Option BookFacts → Type 0
DidJob None task d blanks w ended book = RanDocument task d blanks w ended book
DidJob (Some job) task d blanks w ended book = (book ≡ None) × WroteAnswer job blanks (untraced d) w ended
