-- Where a job stands whose history is the one that the lines have told so far.
use Rattle.std.specs.Prelude.{◌≡◌, ℕ, suc, ◌+◌, ◌<◌, ◌≤◌, Bool, true, false, if◌then◌else◌, List, [], ◌∷◌, length}
use Rattle.cm_document.specs.declared.document.Document.{Document}
use Rattle.cm_document.specs.declared.script.SessionText.{SessionText}
use Rattle.cm_model.specs.Machine.{IsLegal}
use Rattle.cm_model.specs.Scheduled.{Session, Progress}
use Rattle.cm_model.specs.Sessions.{entries_by}
use Rattle.cm_model.specs.State.{State, boot}
use Rattle.cm_model.specs.Trace.{names_in}
use Rattle.cm_model.specs.declared.blanks.Blanks.{Blanks}
use Rattle.cm_model.specs.declared.entry.Entry.{Entry}
use Rattle.desk_turns.specs.Jobs.{JobFacts, progress_of}
use Rattle.trace_laws.specs.Next.{stands_after, state_of}
use Rattle.trace_text.specs.OneByOne.{LinesFacts}

-- where sessions, of which the first has this number, stand after a history: each where its own entries leave it
abbrev pub standing_from : ℕ → List SessionText → List Entry → List Session
standing_from who [] history = []
standing_from who (text ∷ texts) history =
    stands_after text.lines (entries_by who history) ∷ standing_from (suc who) texts history

-- how far the document's run over these blanks has come with this history
abbrev pub progress_at : Document → Blanks → List Entry → Progress
progress_at document blanks history = record {
  state = state_of document blanks history;
  made = history;
  sessions = standing_from 0 document.script.sessions history;
}

-- one, if it is so
abbrev pub one_if : Bool → ℕ
one_if so = if so then 1 else 0

-- The loop stands where its own entries leave it: it has made two calls for each cycle that ended, one for a cycle that
-- is aloft, and the close behind the last cycle.
pub record LoopStands (cycles : ℕ) (s : State) (entries : List Entry) : Type 0 where
  pub calls : length entries ≡ (s.ended + s.ended) + (one_if s.aloft + one_if s.closed)
  pub within : s.ended ≤ cycles
  pub flying : s.aloft ≡ true → s.ended < cycles
  pub last : s.closed ≡ true → (s.ended ≡ cycles) × (s.aloft ≡ false)

-- the loop of the document's run over these blanks, after this history
abbrev pub LoopStandsAt : Document → Blanks → List Entry → Type 0
LoopStandsAt document blanks history =
    LoopStands document.description.cycles (state_of document blanks history)
    (entries_by (length document.script.sessions) history)

-- A job stands behind this history of the document's run over these blanks.
pub record StandsAt (document : Document) (blanks : Blanks) (history : List Entry) (job : JobFacts) : Type 0 where
  pub opening : job.desk.opening ≡ boot document.description blanks (length document.script.sessions)
  pub progress : progress_of job ≡ progress_at document blanks history
  pub legal : IsLegal document.description blanks (length document.script.sessions) history
  pub looped : LoopStandsAt document blanks history

-- Lines can be made of the next entry behind this history.
pub record KnowsNames (document : Document) (history : List Entry) (lines : LinesFacts) : Type 0 where
  pub sessions : lines.sessions ≡ document.script.sessions
  pub names : lines.names ≡ names_in document.description history
