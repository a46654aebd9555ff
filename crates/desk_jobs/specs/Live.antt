-- A live run: what it starts from, and what it comes to, over a shared desk or, without sessions, over a desk alone.
use Rattle.std.specs.Prelude.{◌≡◌, ℕ, true, List, [], length, is_some}
use Rattle.std.specs.List.{AllZip}
use Rattle.cm_document.specs.declared.description.Description.{Description}
use Rattle.cm_desk.specs.Desk.{History, IsRight, now_of}
use Rattle.cm_model.specs.Sessions.{calls_of, entries_by, loop_calls, Follows}
use Rattle.cm_model.specs.State.{State, boot}
use Rattle.cm_model.specs.declared.blanks.Blanks.{Blanks}
use Rattle.cm_model.specs.declared.entry.Entry.{Entry}
use Rattle.console_session.specs.Sessions.{SessionState}
use Rattle.rt_flight.specs.Flights.{FlightFacts, IsAloft, IsComputed}
use Rattle.shared_desk.specs.Calls.Home.{AreHandedIn}
use Rattle.shared_desk.specs.Calls.Share.{Shares}
use Rattle.turn_lock.specs.Passes.{view}
use Rattle.turn_lock.specs.declared.kept.Kept.{Ghosts}
use Rattle.turn_lock.specs.declared.lock.TurnLock.{TurnLock}
use Rattle.turn_lock.specs.declared.pass.TurnPass.{TurnPass}
use Rattle.desk_turns.specs.Jobs.{AreAtFirst}

-- The loop alone made all cycles of a description and closed, over the desk that was booted without sessions.
pub record HasLoopedAlone (description : Description) (blanks : Blanks) (h : History) : Type 0 where
  pub opening : h.opening ≡ boot description blanks 0
  pub right : IsRight h
  pub looped : calls_of (entries_by 0 h.made) ≡ loop_calls description.cycles
  pub closed : (now_of h).closed ≡ true

-- A flight was computed: of each state of which it was, it is the computed one.
pub record WasComputed (old new : FlightFacts) : Type 0 where
  pub cycle : (s : State) → IsAloft s old → IsComputed s new
  pub computed : is_some new.outcome ≡ true

module _ {K : Type 0} {g : Ghosts K Entry State} where
  -- A live run can start: the desk was shared as it was booted, these are all its passes, which have seen nothing, and
  -- each session is before its first line.
  pub record CanStart (cycles : ℕ) (lock : TurnLock K Entry State) (first : History) (sessions : List SessionState)
      (looping : TurnPass K Entry State g) (passes : List (TurnPass K Entry State g)) : Type 0 where
    pub booted : first.opening ≡ boot first.opening.description first.opening.blanks first.opening.sessions
    pub none : first.made ≡ []
    pub cycles_are : first.opening.description.cycles ≡ cycles
    pub shares : Shares first lock first looping passes
    pub as_many : length sessions ≡ first.opening.sessions
    pub sessions_are : AreAtFirst 0 sessions

  -- The entries that a session's pass has seen of its own number follow the lines of the session.
  pub record HasMadeItsLines (session : SessionState) (p : TurnPass K Entry State g) : Type 0 where
    pub number : p.number ≡ session.who
    pub follows : Follows session.lines (entries_by p.number (view p).seen)

  -- It came to its end: its passes can be handed in, the loop made so many cycles and closed, and each session has made
  -- its lines.
  pub record HasRun (cycles : ℕ) (lock : TurnLock K Entry State) (first : History) (sessions : List SessionState)
      (looping : TurnPass K Entry State g) (passes : List (TurnPass K Entry State g)) : Type 0 where
    pub handed_in : AreHandedIn lock first looping passes
    pub looped : calls_of (entries_by looping.number (view looping).seen) ≡ loop_calls cycles
    pub followed : AllZip HasMadeItsLines sessions passes
