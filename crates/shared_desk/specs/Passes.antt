-- A pass of a shared desk: what it has seen, and whose it is. All of it is said of the lock and of the history that the
-- desk had when it was shared.
use Rattle.std.specs.Prelude.{◌≡◌, ◌<◌, Some}
use Rattle.cm_desk.specs.Desk.{History}
use Rattle.cm_model.specs.State.{State}
use Rattle.cm_model.specs.declared.entry.Entry.{Entry}
use Rattle.turn_lock.specs.declared.kept.Kept.{Ghosts}
use Rattle.turn_lock.specs.declared.lock.TurnLock.{TurnLock}
use Rattle.turn_lock.specs.declared.pass.TurnPass.{TurnPass}
use Rattle.turn_lock.specs.Passes.{view, IsReady}

module _ {K : Type 0} {g : Ghosts K Entry State} where
  -- the history that a pass has seen, of a desk that began in this state
  abbrev pub history_of : State → TurnPass K Entry State g → History
  history_of opening p = record { opening = opening; made = (view p).seen }

  -- It is a pass of this desk, and does not hold the turn.
  pub record IsAt (lock : TurnLock K Entry State) (first : History) (p : TurnPass K Entry State g) : Type 0 where
    pub ready : IsReady lock p
    pub ground_is : (view p).footing ≡ Some first.opening

  -- It is that of a session.
  pub record IsSessionPass (lock : TurnLock K Entry State) (first : History) (p : TurnPass K Entry State g) :
      Type 0 where
    pub at : IsAt lock first p
    pub session : p.number < first.opening.sessions

  -- It is that of the loop.
  pub record IsLoopPass (lock : TurnLock K Entry State) (first : History) (p : TurnPass K Entry State g) : Type 0 where
    pub at : IsAt lock first p
    pub loop : p.number ≡ first.opening.sessions
