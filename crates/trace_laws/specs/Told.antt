-- Which texts are the trace of a run, and where a text that is none goes wrong.
use Rattle.std.specs.Prelude.{◌≡◌, ℕ, ◌+◌, ◌-◌, ◌<◌, ◌≤◌, List, [], length, take, slice_get}
use Rattle.std.specs.Option.{option_map_or}
use Rattle.cm_document.specs.Lines.{raw_lines, joined}
use Rattle.cm_document.specs.declared.document.Document.{Document}
use Rattle.cm_model.specs.Machine.{IsLegal}
use Rattle.cm_model.specs.Sessions.{IsWhole}
use Rattle.cm_model.specs.Trace.{output}
use Rattle.cm_model.specs.declared.blanks.Blanks.{Blanks}
use Rattle.cm_model.specs.declared.entry.Entry.{Entry}
use Rattle.trace_laws.specs.Next.{expected_at}
use Rattle.trace_laws.specs.OnTheWay.{IsOnItsWay}

-- ---- Texts

-- This history is legal over these blanks and on its way for the document, and the text is its trace.
pub record Prints (document : Document) (blanks : Blanks) (text : List ℕ) (history : List Entry) : Type 0 where
  pub legal : IsLegal document.description blanks (length document.script.sessions) history
  pub on_its_way : IsOnItsWay document history
  pub printed : text ≡ output document history

-- A text is begun where it is the trace of a legal history that is on its way.
abbrev pub IsBegun : Document → Blanks → List ℕ → Type 0
IsBegun document blanks text = (history : List Entry) × Prints document blanks text history

-- It is told where it is the trace of a legal history that is whole.
pub record IsTold (document : Document) (blanks : Blanks) (text : List ℕ) : Type 0 where
  pub history : List Entry
  pub legal : IsLegal document.description blanks (length document.script.sessions) history
  pub whole : IsWhole document history
  pub printed : text ≡ output document history

-- ---- The wrong line

-- the first so many lines of a text, each with its line feed
abbrev pub first_lines : ℕ → List ℕ → List ℕ
first_lines count text = joined (take count (raw_lines text))

-- Where a text is not told: the number of a line, from 1 on, and the line that was to come there, without its line
-- feed.
pub record WrongLine : Type 0 where
  pub line : ℕ
  pub expected : List ℕ

-- A text is not told, and this is the first of its lines such that the lines up to it are not begun. Where each line is
-- begun it is one more than there are lines.
pub record GoesWrongAt (document : Document) (blanks : Blanks) (text : List ℕ) (line : ℕ) : Type 0 where
  pub not_told : IsTold document blanks text → ⊥
  pub first : 1 ≤ line
  pub last : line ≤ length (raw_lines text) + 1
  pub before : (count : ℕ) → count < line → IsBegun document blanks (first_lines count text)
  pub there : line ≤ length (raw_lines text) → IsBegun document blanks (first_lines line text) → ⊥

-- A text goes wrong at this line, and that was to come there after the history that the lines before it print. Behind
-- the last line nothing is expected.
pub record IsWrong (document : Document) (blanks : Blanks) (text : List ℕ) (wrong : WrongLine) : Type 0 where
  pub at : GoesWrongAt document blanks text wrong.line
  pub history : List Entry
  pub so_far : Prints document blanks (first_lines (wrong.line - 1) text) history
  pub expected : wrong.expected
      ≡ option_map_or (expected_at document blanks history) (slice_get (raw_lines text) (wrong.line - 1)) []
