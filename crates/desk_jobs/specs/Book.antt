-- The book that a run hands out, and when its desk is done.
use Rattle.std.specs.Prelude.{◌≡◌, true, List, length, map, Option, None, Some, IfSome}
use Rattle.cm_document.specs.declared.document.Document.{Document}
use Rattle.cm_model.specs.Machine.{IsLegal, state_after}
use Rattle.cm_model.specs.Scheduled.{scheduled, scheduled_in_steps}
use Rattle.cm_model.specs.Sessions.{IsWhole}
use Rattle.cm_model.specs.Sound.{IsSound}
use Rattle.cm_model.specs.State.{boot}
use Rattle.cm_model.specs.declared.blanks.Blanks.{Blanks}
use Rattle.cm_model.specs.declared.data.CtlData.{CtlData}
use Rattle.cm_model.specs.declared.entry.Entry.{Entry}
use Rattle.cm_desk.specs.Desk.{History, now_of}
use Rattle.cm_desk.specs.declared.book.Book.{Book}
use Rattle.cm_words.specs.declared.job.JobKind.{JobKind}
use Rattle.cm_words.specs.declared.job.JobKind.TheVariants as kind

-- What a book holds: its history, and the data of its boxes.
pub record BookFacts : Type 0 where
  pub history : List Entry
  pub boxes : List CtlData

-- what a book with boxes of this kind holds
abbrev pub book_facts : {C : Type 0} → (C → CtlData) → Book C → BookFacts
book_facts meaning book = record { history = book.history.items; boxes = map meaning book.boxes.items }

-- the book that a desk of this history hands out
abbrev pub book_of : History → BookFacts
book_of h = record { history = h.made; boxes = map (λ l. l.ctl) (now_of h).loaded }

-- The history that a job makes of each document. A live run leaves it to its threads; an upgrade, a check
-- and a plan make none.
abbrev pub Histories : Type 0
Histories = Option (Document → List Entry)

-- the one that a job of this kind makes over these blanks: before each cycle the sessions settle, and with `steps` the
-- turns of the schedule come first
abbrev pub made_by : JobKind → Blanks → Histories
made_by kind.Run blanks = Some (λ d. scheduled d blanks)
made_by kind.Steps blanks = Some (λ d. scheduled_in_steps d blanks)
made_by kind.Live blanks = None
made_by kind.Upgrade blanks = None
made_by kind.Check blanks = None
made_by kind.Plan blanks = None

-- one thread runs the job: no other makes its history there
abbrev pub RunsAlone : JobKind → Type 0
RunsAlone kind.Run = Unit {0}
RunsAlone kind.Steps = Unit {0}
RunsAlone _ = ⊥

-- The book of a run of this document. Its history is legal, sound and whole, and it is the one that the job makes of
-- the document, if that is said. Its boxes have the data of the controllers that are loaded after it, by serial.
pub record IsBookOf (made : Histories) (blanks : Blanks) (d : Document) (book : BookFacts) : Type 0 where
  pub history : IfSome made (λ history_of. book.history ≡ history_of d)
  pub legal : IsLegal d.description blanks (length d.script.sessions) book.history
  pub sound : IsSound d.description blanks (length d.script.sessions) book.history
  pub whole : IsWhole d book.history
  pub boxes : book.boxes
      ≡ map (λ l. l.ctl) (state_after (boot d.description blanks (length d.script.sessions)) book.history).loaded

-- A desk that has made its job of this document to the end: the loop is closed, and its book is that of the run.
pub record IsDone (made : Histories) (blanks : Blanks) (d : Document) (h : History) : Type 0 where
  pub opening : h.opening ≡ boot d.description blanks (length d.script.sessions)
  pub closed : (now_of h).closed ≡ true
  pub book_is : IsBookOf made blanks d (book_of h)
