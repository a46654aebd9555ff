-- The order of the job `run`: sessions settle before each cycle, after the last, and once more after the close. And
-- that of the job `steps`: first the turns of the script's schedule, and then the rest so.
use Rattle.std.specs.Prelude.{ℕ, zero, suc, ◌+◌, ◌-◌, List, [], ◌∷◌, ◌++◌, length, map, drop, slice_get, slice_set}
use Rattle.std.specs.Prelude.{Option, Some, None}
use Rattle.cm_document.specs.declared.call.Call.{Call}
use Rattle.cm_document.specs.declared.call.Call.TheVariants.{Told, Begin, End, Close}
use Rattle.cm_document.specs.declared.document.Document.{Document}
use Rattle.cm_document.specs.declared.script.Turn.{Turn}
use Rattle.cm_document.specs.declared.script.Turn.TheVariants as turn
use Rattle.cm_model.specs.State.{State, boot}
use Rattle.cm_model.specs.Machine.{step}
use Rattle.cm_model.specs.declared.entry.Entry.{Entry}
use Rattle.cm_model.specs.declared.reply.Reply.{Reply}
use Rattle.cm_model.specs.declared.reply.Reply.TheVariants as reply
use Rattle.cm_model.specs.declared.blanks.Blanks.{Blanks}

-- ---- One session

-- Where a session stands: the lines that it has left, and the ticket that it has still to be told of.
pub record Session : Type 0 where
  pub lines : List Call
  pub ticket : Option ℕ

-- how far a run has come where one session advances: the state, the history, and where the session stands
pub record Advanced : Type 0 where
  pub state : State
  pub made : List Entry
  pub session : Session

-- one entry more
abbrev pub with_entry : List Entry → ℕ → Call → Reply → List Entry
with_entry made who call reply = made ++ record { who = who; call = call; reply = reply } ∷ []

-- the ticket that a request was given
abbrev pub ticket_in : Reply → Option ℕ
ticket_in (reply.Queued ticket) = Some ticket
ticket_in _ = None

-- A session's next call is the Told of its ticket, else its next line.
abbrev pub next_call : Option ℕ → List Call → Option Call
next_call (Some ticket) lines = Some (Told ticket)
next_call None [] = None
next_call None (call ∷ lines) = Some call

-- Where it stands after that call: without the ticket that it was told of, or one line further, with the ticket that it
-- was given.
abbrev pub after_call : Option ℕ → List Call → Reply → Session
after_call (Some ticket) lines r = record { lines = lines; ticket = None }
after_call None lines r = record { lines = drop 1 lines; ticket = ticket_in r }

-- after a call that made this step
abbrev pub stepped_on : ℕ → Advanced → Call → Option (State × Reply) → Option Advanced
stepped_on who a call None = None
stepped_on who a call (Some made) = Some (record {
  state = made.0;
  made = with_entry a.made who call made.1;
  session = after_call a.session.ticket a.session.lines made.1;
})

-- this call, where it is enabled
abbrev pub called_on : ℕ → Advanced → Option Call → Option Advanced
called_on who a None = None
called_on who a (Some call) = stepped_on who a call (step a.state who call)

-- A session advances by its next call, where it has one that is enabled.
unfoldable pub advance : ℕ → Advanced → Option Advanced
advance who a = called_on who a (next_call a.session.ticket a.session.lines)

-- at most so many advances, until there is none
abbrev pub advances : ℕ → ℕ → Advanced → Advanced
advances zero who a = a
advances (suc k) who a = elim (advance who a) [ None ↦ a | Some next ↦ advances k who next ]

-- how many entries a session can make at most: for each line its own and a Told, and one for its ticket
abbrev pub most_entries : Session → ℕ
most_entries session = suc (length session.lines + length session.lines)

-- A session settles: it advances until it cannot.
unfoldable pub settle : ℕ → Advanced → Advanced
settle who a = advances (most_entries a.session) who a

-- ---- All sessions

-- how far a run has come: the state, the history, and where each session stands
pub record Progress : Type 0 where
  pub state : State
  pub made : List Entry
  pub sessions : List Session

-- the sessions from this number on settle in order; `settled` are those before
abbrev pub settle_from : ℕ → List Session → State → List Entry → List Session → Progress
settle_from who [] s made settled = record { state = s; made = made; sessions = settled }
settle_from who (session ∷ later) s made settled =
    let a = settle who (record {
      state = s;
      made = made;
      session = session;
    }) in settle_from (who + 1) later a.state a.made (settled ++ a.session ∷ [])

-- all sessions settle in order
unfoldable pub settle_all : Progress → Progress
settle_all progress = settle_from 0 progress.sessions progress.state progress.made []

-- ---- The loop

-- the loop makes a call, where it is enabled
unfoldable pub looped : Call → Progress → Progress
looped call progress =
    elim (step progress.state progress.state.sessions call) [
      | None ↦ progress
      | Some made ↦ record progress {
        state = made.0;
        made = with_entry progress.made progress.state.sessions call made.1;
      }
    ]

-- the sessions settle, and the n-th cycle begins and ends
unfoldable pub with_cycle : ℕ → Progress → Progress
with_cycle cycle progress = looped (End cycle) (looped (Begin cycle) (settle_all progress))

-- the first n cycles
abbrev pub cycles : ℕ → Progress → Progress
cycles zero progress = progress
cycles (suc n) progress = with_cycle n (cycles n progress)

-- so many cycles from this one on
abbrev pub cycles_from : ℕ → ℕ → Progress → Progress
cycles_from first zero progress = progress
cycles_from first (suc n) progress = with_cycle (first + n) (cycles_from first n progress)

-- after the last cycle the sessions settle, the loop closes, and they settle once more
unfoldable pub finish : Progress → Progress
finish progress = settle_all (looped Close (settle_all progress))

-- at first no session has made a line
unfoldable pub start : Document → Blanks → Progress
start document blanks = record {
  state = boot document.description blanks (length document.script.sessions);
  made = [];
  sessions = map (λ session. record { lines = session.lines; ticket = None }) document.script.sessions;
}

-- the history of the job `run`
unfoldable pub scheduled : Document → Blanks → List Entry
scheduled document blanks = (finish (cycles document.description.cycles (start document blanks))).made

-- ---- The turns of a schedule

-- where one session made this advance; without one nothing changes
abbrev pub with_advance : ℕ → Progress → Option Advanced → Progress
with_advance who progress None = progress
with_advance who progress (Some a) = record {
  state = a.state;
  made = a.made;
  sessions = slice_set progress.sessions who a.session;
}

-- the session of this number, which stands so, advances once, where it can
abbrev pub advanced_once : ℕ → Progress → Option Session → Progress
advanced_once who progress None = progress
advanced_once who progress (Some x) = with_advance who progress (advance who (record {
  state = progress.state;
  made = progress.made;
  session = x;
}))

-- A turn: a session advances once, the next cycle begins, or the cycle that is aloft ends. A turn that cannot be made
-- does nothing.
abbrev pub turned : Turn → Progress → Progress
turned (turn.Step who) progress = advanced_once who progress (slice_get progress.sessions who)
turned turn.Begin progress = looped (Begin progress.state.ended) progress
turned turn.End progress = looped (End progress.state.ended) progress

-- the turns, one after another
abbrev pub turns : List Turn → Progress → Progress
turns [] progress = progress
turns (t ∷ ts) progress = turns ts (turned t progress)

-- a cycle that is aloft ends
abbrev pub landed : Progress → Progress
landed progress = looped (End progress.state.ended) progress

-- the cycles that are left of so many
abbrev pub cycles_left : ℕ → Progress → Progress
cycles_left count progress = cycles_from progress.state.ended (count - progress.state.ended) progress

-- The history of the job `steps`.
unfoldable pub scheduled_in_steps : Document → Blanks → List Entry
scheduled_in_steps document blanks =
    (finish
    (cycles_left document.description.cycles
    (landed (turns document.script.schedule (start document blanks))))).made
