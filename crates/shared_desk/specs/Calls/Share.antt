-- What `share` promises.
use Rattle.std.specs.Prelude.{◌≡◌, ◌+◌, List, [], ◌∷◌, ◌++◌, All}
use Rattle.cm_desk.specs.Desk.{History}
use Rattle.cm_model.specs.State.{State}
use Rattle.cm_model.specs.declared.entry.Entry.{Entry}
use Rattle.turn_lock.specs.declared.kept.Kept.{Ghosts}
use Rattle.turn_lock.specs.declared.lock.TurnLock.{TurnLock}
use Rattle.turn_lock.specs.declared.pass.TurnPass.{TurnPass}
use Rattle.turn_lock.specs.Calls.Make.{Made}
use Rattle.shared_desk.specs.Passes.{IsSessionPass, IsLoopPass}

-- The desk is shared: this is the history that it had. There is a pass for each session, in order, and then that of the
-- loop; they are all, and have seen nothing yet.
pub record Shares {K : Type 0} {g : Ghosts K Entry State} (desk : History) (lock : TurnLock K Entry State)
    (first : History) (looping : TurnPass K Entry State g) (passes : List (TurnPass K Entry State g)) : Type 0 where
  pub first_is : first ≡ desk
  pub made : Made desk.opening (desk.opening.sessions + 1) lock (passes ++ looping ∷ [])
  pub looping_is : IsLoopPass lock first looping
  pub passes_are : All (IsSessionPass lock first) passes
