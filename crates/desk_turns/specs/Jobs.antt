-- How far a job has come, and a move of it.
use Rattle.std.specs.Prelude.{◌≡◌, ℕ, suc, nat_lt, Bool, true, if◌then◌else◌, List, [], ◌∷◌, length, map, is_none}
use Rattle.std.specs.Prelude.{Option, is_some, IfSome}
use Rattle.std.specs.List.{list_all}
use Rattle.cm_document.specs.declared.call.Call.{Call}
use Rattle.cm_document.specs.declared.call.Call.TheVariants.{Begin, End, Close}
use Rattle.cm_model.specs.Scheduled.{Session, Advanced, Progress, looped}
use Rattle.cm_model.specs.State.{State}
use denote.Ref.{MutBor}
use denote.Param.Members.{Shared}
use Rattle.cm_desk.specs.Desk.{History, now_of, IsAloftAlike, IsAtHand}
use Rattle.rt_flight.specs.Flights.{FlightFacts}
use Rattle.console_session.specs.Sessions.{SessionState, at_first, left_of, next_of}

-- how far the run has come where a session that stands so advances over a desk of this history
abbrev pub at : History → Session → Advanced
at h x = record { state = now_of h; made = h.made; session = x }

-- the numbers of these sessions go up by one, from this one on
abbrev pub AreNumberedFrom : ℕ → List SessionState → Type 0
AreNumberedFrom n [] = Unit {0}
AreNumberedFrom n (x ∷ xs) = (x.who ≡ n) × AreNumberedFrom (suc n) xs

-- sessions before their first lines, numbered from this number on
abbrev pub AreAtFirst : ℕ → List SessionState → Type 0
AreAtFirst n [] = Unit {0}
AreAtFirst n (x ∷ xs) = (x ≡ at_first n x.lines) × AreAtFirst (suc n) xs

-- The sessions of a desk: as many as it has, each with its place as its number, which is that of its console.
pub record AreSessionsOf (desk : History) (sessions : List SessionState) : Type 0 where
  pub many : length sessions ≡ desk.opening.sessions
  pub numbered : AreNumberedFrom 0 sessions

-- It is the same desk, from the same opening, and the same cycle is aloft in it, if one was.
pub record IsSameDesk (old new : History) : Type 0 where
  pub opening : new.opening ≡ old.opening
  pub aloft : IsAloftAlike old new

-- How far a job has come: what its desk did from the opening on, and where each session stands.
pub record JobFacts : Type 0 where
  pub desk : History
  pub sessions : List SessionState

-- that is a progress of the schedule
abbrev pub progress_of : JobFacts → Progress
progress_of j = record { state = now_of j.desk; made = j.desk.made; sessions = map left_of j.sessions }

-- The job went on as this says, from the same opening.
pub record GoesOn (change : Progress → Progress) (old new : JobFacts) : Type 0 where
  pub opening : new.desk.opening ≡ old.desk.opening
  pub moved : progress_of new ≡ change (progress_of old)

-- Where a cycle is aloft in a desk of this history, its flight is here and at hand: computed, or not yet.
pub record HasFlight (h : History) (flight : Option FlightFacts) : Type 0 where
  pub there : is_some flight ≡ (now_of h).aloft
  pub at_hand : IfSome flight (IsAtHand h)

-- A flight was computed where it was not: if it was at hand it still is, and it is computed.
pub record IsComputedOnce (old new : FlightFacts) : Type 0 where
  pub at_hand : (h : History) → IsAtHand h old → IsAtHand h new
  pub computed : (h : History) → IsAtHand h old → is_some new.outcome ≡ true

module _ {J F : Type 0} (facts : J → JobFacts)
    (g : Shared F (MutBor J × Unit {0}) (Unit {0} × (MutBor J × Unit {0}))) where
  -- What a caller does between two moves of a job: it can be done at any time, and the job is as far as before.
  pub record LeavesJob (between : F) : Type 0 where
    pub takes : (p : MutBor J) → g.pre between (p, tt)
    pub leaves : (p q : MutBor J) → g.post between (p, tt) (tt, (q, tt)) → facts q.now ≡ facts p.now

-- none of these sessions has a call left
abbrev pub are_through : List SessionState → Bool
are_through sessions = list_all (λ x. is_none (next_of x)) sessions

-- the loop's next call: the end of the cycle that is aloft, else the begin of the next one, and behind the last the
-- close
abbrev pub loop_call : State → Call
loop_call s = if s.aloft then End s.ended else if nat_lt s.ended s.description.cycles then Begin s.ended else Close

-- the loop makes it, if it is enabled
abbrev pub looped_on : Progress → Progress
looped_on progress = looped (loop_call progress.state) progress
