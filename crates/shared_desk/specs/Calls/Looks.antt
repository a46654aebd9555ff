-- What a look at a published number comes to. It takes no turn.
use Rattle.std.specs.Prelude.{◌≡◌, ℕ, ◌+◌, ◌≤◌}
use Rattle.cm_desk.specs.Desk.{History}
use Rattle.cm_model.specs.State.{State}
use Rattle.cm_model.specs.declared.entry.Entry.{Entry}
use Rattle.turn_lock.specs.declared.kept.Kept.{Ghosts}
use Rattle.turn_lock.specs.declared.kept.Shown.{Shown}
use Rattle.turn_lock.specs.declared.lock.TurnLock.{TurnLock}
use Rattle.turn_lock.specs.declared.pass.TurnPass.{TurnPass}
use Rattle.turn_lock.specs.Passes.{view, Becomes}
use Rattle.turn_lock.specs.Views.{known, loaded}
use Rattle.shared_desk.specs.Passes.{IsAt}
use Rattle.shared_desk.specs.Shown.{shown_of}

module _ {K : Type 0} {g : Ghosts K Entry State} where
  -- The pass loaded the published number once more and found this one:
  pub record Looks (which : Shown) (lock : TurnLock K Entry State) (first : History) (p q : TurnPass K Entry State g)
      (found : ℕ) : Type 0 where
    -- not below what it knew, nor below what it has seen.
    pub knew : (known which (view p)).number ≤ found
    pub seen : shown_of which (view p).seen ≤ found
    -- It knows that number then, and has one load more; all else that it knows stays, its turns and what it has seen
    -- among it.
    pub becomes : Becomes p q (loaded which found (view p))
    pub still : IsAt lock first q
