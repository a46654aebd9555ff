-- A session over a console, and what one advance comes to.
use Rattle.std.specs.Prelude.{◌≡◌, ℕ, ◌<◌, ◌^◌, List, drop, length, Option, Some, None}
use Rattle.std.specs.List.{AllByRecursion}
use Rattle.cm_document.specs.declared.call.Call.{Call}
use Rattle.cm_document.specs.declared.call.Call.TheVariants.{Told, Await, Begin, End, Close}
use Rattle.cm_model.specs.Machine.{state_after}
use Rattle.cm_model.specs.Scheduled.{Session as WrittenSession, Advanced, advance, next_call, after_call}
use Rattle.cm_model.specs.State.{State}
use Rattle.cm_model.specs.declared.entry.Entry.{Entry}
use Rattle.cm_model.specs.declared.reply.Reply.{Reply}
use Rattle.console_session.specs.declared.session.Progress.{Progress}
use Rattle.console_session.specs.declared.session.Progress.TheVariants as progress
use Rattle.cm_model.specs.Ports.{Console, Makes, IsNotYet, MakesNone}

-- A line of a session: a call of its own, and no Told, which comes of itself.
abbrev pub IsLine : Call → Type 0
IsLine (Told _) = ⊥
IsLine (Begin _) = ⊥
IsLine (End _) = ⊥
IsLine Close = ⊥
IsLine _ = Unit {0}

-- lines of a session, fewer than can be numbered
pub record AreLines (lines : List Call) : Type 0 where
  pub each : AllByRecursion IsLine lines
  pub few : length lines < 2 ^ 32

-- how many cycles a line waits for, where it is an await
abbrev pub awaited : Call → Option ℕ
awaited (Await cycles) = Some cycles
awaited _ = None

-- A session: its number, all its lines, the number of the next one, and the ticket that it has still to be told of.
pub record SessionState : Type 0 where
  pub who : ℕ
  pub lines : List Call
  pub line : ℕ
  pub ticket : Option ℕ

-- before its first line
abbrev pub at_first : ℕ → List Call → SessionState
at_first who lines = record { who = who; lines = lines; line = 0; ticket = None }

-- the lines that it has left, with its ticket: where it stands in what is scheduled
abbrev pub left_of : SessionState → WrittenSession
left_of x = record { lines = drop x.line x.lines; ticket = x.ticket }

-- the call that it makes next: the Told of its ticket, else its next line
abbrev pub next_of : SessionState → Option Call
next_of x = next_call x.ticket (left_of x).lines

-- ---- One advance

-- It made its next call, one entry of its console, and stands where it stands after that.
pub record HasRun (old new : Console) (x x' : SessionState) : Type 0 where
  pub call : Call
  pub reply : Reply
  pub next : next_of x ≡ Some call
  pub made : Makes old new call reply
  pub left : left_of x' ≡ after_call x.ticket (left_of x).lines reply
  pub who : x'.who ≡ x.who
  pub lines : x'.lines ≡ x.lines

-- Its next call is not enabled yet, and it stands where it stood.
pub record HasWaited (old new : Console) (x x' : SessionState) : Type 0 where
  pub call : Call
  pub next : next_of x ≡ Some call
  pub not_yet : IsNotYet old new call
  pub stays : x' ≡ x

-- It has no call left, and neither it nor its console changed.
pub record HasEnded (old new : Console) (x x' : SessionState) : Type 0 where
  pub next : next_of x ≡ None
  pub none : new ≡ old
  pub stays : x' ≡ x

-- What an advance came to, by its answer.
abbrev pub Advances : Progress → Console → Console → SessionState → SessionState → Type 0
Advances progress.Ran old new x x' = HasRun old new x x'
Advances progress.Waits old new x x' = HasWaited old new x x'
Advances progress.Ended old new x x' = HasEnded old new x x'

-- Want of memory: no entry was made, and the session stands where it stood.
pub record HasStopped (old new : Console) (x x' : SessionState) : Type 0 where
  pub none : MakesNone old new
  pub stays : x' ≡ x

-- ---- The written advance

-- how far a run has come after this history, where this session advances over it
abbrev pub advanced : State → List Entry → SessionState → Advanced
advanced opening h x = record { state = state_after opening h; made = h; session = left_of x }

-- an advance that ran is the written one, and where there is none the history is as it was
abbrev pub IsWritten : Progress → State → ℕ → List Entry → List Entry → SessionState → SessionState → Type 0
IsWritten progress.Ran opening who h h' x x' = advance who (advanced opening h x) ≡ Some (advanced opening h' x')
IsWritten _ opening who h h' x x' = (advance who (advanced opening h x) ≡ None) × (h' ≡ h)

-- Over a console that tells the whole history behind it, an advance is the written one of a session of the console's
-- number.
abbrev pub AdvancesAsWritten : Progress → Console → Console → SessionState → SessionState → Type 0
AdvancesAsWritten p old new x x' =
    (h : List Entry) → old.whole ≡ Some h
    → (h' : List Entry) × (new.whole ≡ Some h') × IsWritten p old.opening old.who h h' x x'
