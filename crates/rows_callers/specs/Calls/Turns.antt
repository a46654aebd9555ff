-- What a turn has before a line is written and after it.
use Rattle.turn_lock.specs.declared.kept.Kept.{Ghosts}
use Rattle.turn_lock.specs.declared.lock.TurnLock.{TurnLock}
use Rattle.turn_lock.specs.declared.pass.TurnPass.{TurnPass}
use Rattle.turn_lock.specs.Calls.Put.{IsSettled}
use Rattle.turn_lock.specs.Passes.{HasTurn}

-- The pass has the turn, and the value can be put back as it is.
pub record IsAtWork {K E G : Type 0} {g : Ghosts K E G} (lock : TurnLock K E G) (p : TurnPass K E G g) (kept : K) : Type
    0 where
  pub turn : HasTurn lock p
  pub settled : IsSettled p kept
