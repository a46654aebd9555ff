-- The loop at a shared desk, with what its owner keeps beside its pass.
use Rattle.std.specs.Prelude.{◌≡◌, ◌-◌, false, Option, None, IfSome}
use Rattle.cm_desk.specs.Desk.{History, IsAtHand}
use Rattle.cm_model.specs.State.{State}
use Rattle.cm_model.specs.declared.entry.Entry.{Entry}
use Rattle.rt_flight.specs.Flights.{FlightFacts}
use Rattle.turn_lock.specs.declared.kept.Kept.{Ghosts}
use Rattle.turn_lock.specs.declared.lock.TurnLock.{TurnLock}
use Rattle.turn_lock.specs.declared.pass.TurnPass.{TurnPass}
use Rattle.shared_desk.specs.Calls.Looping.{stand_of}
use Rattle.shared_desk.specs.Passes.{history_of, IsLoopPass}
use Rattle.rows_desk.specs.declared.shared.stand.LoopStand.{LoopStand}

-- So the loop stands after this state: so many cycles are left, and a cycle is aloft or not, and it is closed or not.
pub record StandsSo (now : State) (stand : LoopStand) : Type 0 where
  pub left : stand.left ≡ now.description.cycles - now.ended
  pub aloft : stand.aloft ≡ now.aloft
  pub closed : stand.closed ≡ now.closed

module _ {K : Type 0} {g : Ghosts K Entry State} where
  -- It is the pass of the loop, which has seen that the loop stands so. A flight that is at hand is that of the cycle
  -- which the pass has seen begin, and none is at hand if no cycle is aloft.
  pub record IsLoopOf (lock : TurnLock K Entry State) (first : History) (p : TurnPass K Entry State g)
      (stand : LoopStand) (flight : Option FlightFacts) : Type 0 where
    pub looping : IsLoopPass lock first p
    pub stands : StandsSo (stand_of first p) stand
    pub home : stand.aloft ≡ false → flight ≡ None
    pub at_hand : IfSome flight (IsAtHand (history_of first.opening p))
