-- Histories that are on their way: each can still become whole for its document.
use Rattle.std.specs.Prelude.{◌≡◌, ℕ, ◌≤◌, List, ◌++◌, length, slice_get, IfSome}
use Rattle.std.specs.List.{AllByRecursion}
use Rattle.cm_document.specs.declared.call.Call.{Call}
use Rattle.cm_document.specs.declared.document.Document.{Document}
use Rattle.cm_model.specs.Sessions.{entries_by, calls_of, loop_calls, Follows}
use Rattle.cm_model.specs.declared.entry.Entry.{Entry}

-- some entries behind these make them follow the lines of a session
abbrev pub CanFollow : List Call → List Entry → Type 0
CanFollow lines entries = (later : List Entry) × Follows lines (entries ++ later)

-- these calls are the first of those
abbrev pub BeginsWith : List Call → List Call → Type 0
BeginsWith all first = (later : List Call) × (first ++ later ≡ all)

-- A history is on its way for a document where each session's entries can go on to follow its lines, the loop's calls
-- are the first of those of a whole run, and nobody else calls.
pub record IsOnItsWay (document : Document) (history : List Entry) : Type 0 where
  pub sessions : (k : ℕ)
      → IfSome (slice_get document.script.sessions k) (λ session. CanFollow session.lines (entries_by k history))
  pub cycles : BeginsWith (loop_calls document.description.cycles)
      (calls_of (entries_by (length document.script.sessions) history))
  pub nobody_else : AllByRecursion (λ e. e.who ≤ length document.script.sessions) history
