-- What the small consoles of these tests tell.
use Rattle.std.specs.Prelude.{ℕ, zero, suc, Bool, true, false, List, [], None}
use Rattle.cm_document.specs.Described.{a_description}
use Rattle.cm_document.specs.declared.call.Call.TheVariants.{Begin, End, Close}
use Rattle.cm_model.specs.Blanks.{no_blanks}
use Rattle.cm_model.specs.Ports.{Console, LoopConsole}
use Rattle.cm_model.specs.Scheduled.{with_entry}
use Rattle.cm_model.specs.State.{State, boot}
use Rattle.cm_model.specs.declared.entry.Entry.{Entry}
use Rattle.cm_model.specs.declared.reply.Reply.TheVariants.{Done}
use Rattle.console_session.specs.Sessions.{SessionState}
use Rattle.live_run.specs.Loops.{IsAtFirst}
use Rattle.live_run.specs.Sessions.{IsAtItsStart}

-- some state in which a history begins
abbrev pub opening : State
opening = boot (a_description 1 100 0 [] []) no_blanks 1

-- that of a session: these entries, so many not-yet answers, and nothing of the history behind it
abbrev pub console : ℕ → List Entry → ℕ → Console
console who made waited = record {
  who = who;
  opening = opening;
  made = made;
  waited = waited;
  whole = None;
  seen = None;
}

-- the loop's number as a caller, which no session has
abbrev pub the_loop : ℕ
the_loop = 8

-- the begins and ends of so many cycles
abbrev pub cycles_made : ℕ → List Entry
cycles_made zero = []
cycles_made (suc n) = with_entry (with_entry (cycles_made n) the_loop (Begin n) Done) the_loop (End n) Done

-- with a begin where a flight is out, or the close
abbrev pub loop_made : ℕ → Bool → Bool → List Entry
loop_made ended true closed = with_entry (cycles_made ended) the_loop (Begin ended) Done
loop_made ended false false = cycles_made ended
loop_made ended false true = with_entry (cycles_made ended) the_loop Close Done

-- that of the loop
abbrev pub loop_console : ℕ → ℕ → Bool → Bool → LoopConsole
loop_console ended left out closed = record {
  who = the_loop;
  made = loop_made ended out closed;
  left = left;
  out = out;
  closed = closed;
}

-- a session before its first line, with a console that has made no entry
abbrev pub IsFresh : SessionState → ℕ → List Entry → ℕ → Type 0
IsFresh session who made waited = IsAtItsStart (console who made waited) session

-- the loop's console before its first cycle
abbrev pub IsFirst : ℕ → ℕ → ℕ → Bool → Bool → Type 0
IsFirst cycles ended left out closed = IsAtFirst cycles (loop_console ended left out closed)
