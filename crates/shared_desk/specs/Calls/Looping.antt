-- What calls of the loop ask and come to, at a turn of its pass. Where the loop stands is read off what its pass has
-- seen. No other pass makes an entry of the loop, so it stands so in the whole history too (`stands`).
use Rattle.std.specs.Prelude.{◌≡◌, true, Some}
use Rattle.cm_document.specs.declared.call.Call.TheVariants as call
use Rattle.cm_desk.specs.Desk.{History, Grows, MayLand, StandsAlike, begun_of, now_of}
use Rattle.cm_model.specs.Boundary.{begin_reply, close_reply}
use Rattle.cm_model.specs.Cycle.{cycle}
use Rattle.cm_model.specs.Machine.{can_begin, can_close}
use Rattle.cm_model.specs.State.{State}
use Rattle.cm_model.specs.declared.entry.Entry.{Entry}
use Rattle.cm_model.specs.declared.reply.Reply.TheVariants as reply
use Rattle.rt_flight.specs.Flights.{FlightFacts}
use Rattle.turn_lock.specs.declared.kept.Kept.{Ghosts}
use Rattle.turn_lock.specs.declared.lock.TurnLock.{TurnLock}
use Rattle.turn_lock.specs.declared.pass.TurnPass.{TurnPass}
use Rattle.shared_desk.specs.Passes.{history_of, IsLoopPass}
use Rattle.shared_desk.specs.Turns.{TakesTurn}

module _ {K : Type 0} {g : Ghosts K Entry State} where
  -- where the loop stands, as its pass has seen
  abbrev pub stand_of : History → TurnPass K Entry State g → State
  stand_of first p = now_of (history_of first.opening p)

  -- It is the loop's pass, and a cycle can begin.
  pub record CanBeginHere (lock : TurnLock K Entry State) (first : History) (p : TurnPass K Entry State g) :
      Type 0 where
    pub looping : IsLoopPass lock first p
    pub can : can_begin (stand_of first p) (stand_of first p).ended ≡ true

  -- It is the loop's pass, and the flight may land.
  pub record CanLandHere (lock : TurnLock K Entry State) (first : History) (p : TurnPass K Entry State g)
      (flight : FlightFacts) : Type 0 where
    pub looping : IsLoopPass lock first p
    pub lands : MayLand (history_of first.opening p) flight

  -- It is the loop's pass, and the loop can close.
  pub record CanCloseHere (lock : TurnLock K Entry State) (first : History) (p : TurnPass K Entry State g) :
      Type 0 where
    pub looping : IsLoopPass lock first p
    pub can : can_close (stand_of first p) ≡ true

  -- The next cycle began, at a turn: one entry more, which tells what was decided of all that waited then.
  pub record BeginsThere (lock : TurnLock K Entry State) (first : History) (p q : TurnPass K Entry State g) :
      Type 0 where
    pub found : History
    pub turn : TakesTurn lock first p q found
    pub stands : StandsAlike (history_of first.opening p) found
    pub grows : Grows found (history_of first.opening q) p.number (call.Begin (stand_of first p).ended)
        (begin_reply (now_of found))

  -- It ended, at a turn: one entry more, with the record of the cycle of the state that the begin left, which the pass
  -- has seen.
  pub record LandsThere (lock : TurnLock K Entry State) (first : History) (p q : TurnPass K Entry State g) :
      Type 0 where
    pub found : History
    pub turn : TakesTurn lock first p q found
    pub stands : StandsAlike (history_of first.opening p) found
    pub begun : State
    pub begun_is : begun_of (history_of first.opening p) ≡ Some begun
    pub grows : Grows found (history_of first.opening q) p.number (call.End (stand_of first p).ended)
        (reply.Cycle (cycle begun).happened)

  -- The loop closed, at a turn: one entry more, which ends each request that waited then.
  pub record ClosesThere (lock : TurnLock K Entry State) (first : History) (p q : TurnPass K Entry State g) :
      Type 0 where
    pub found : History
    pub turn : TakesTurn lock first p q found
    pub stands : StandsAlike (history_of first.opening p) found
    pub grows : Grows found (history_of first.opening q) p.number call.Close (close_reply (now_of found))
