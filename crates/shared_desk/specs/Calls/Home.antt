-- What `home` and `finish` ask and promise.
use Rattle.std.specs.Prelude.{◌≡◌, ◌≤◌, true, List, ◌∷◌, All}
use mathlib.Core.List.{IsPrefix}
use Rattle.cm_desk.specs.Desk.{History, IsRight, now_of}
use Rattle.cm_model.specs.Histories.{ends_in, decided_in}
use Rattle.cm_model.specs.Sessions.{entries_by}
use Rattle.cm_model.specs.State.{State}
use Rattle.cm_model.specs.declared.entry.Entry.{Entry}
use Rattle.turn_lock.specs.declared.kept.Kept.{Ghosts}
use Rattle.turn_lock.specs.declared.lock.TurnLock.{TurnLock}
use Rattle.turn_lock.specs.declared.pass.TurnPass.{TurnPass}
use Rattle.turn_lock.specs.Calls.Finish.{AreAll}
use Rattle.turn_lock.specs.Passes.{view}
use Rattle.shared_desk.specs.Passes.{history_of, IsLoopPass}

module _ {K : Type 0} {g : Ghosts K Entry State} where
  -- These are all passes of the desk, the loop's first; none holds the turn, and the loop has closed, as its pass has
  -- seen.
  pub record AreHandedIn (lock : TurnLock K Entry State) (first : History) (looping : TurnPass K Entry State g)
      (passes : List (TurnPass K Entry State g)) : Type 0 where
    pub looping_is : IsLoopPass lock first looping
    pub all : AreAll lock (looping ∷ passes)
    pub closed : (now_of (history_of first.opening looping)).closed ≡ true

  -- The history begins with what the pass had seen, and has of its number just the entries that it had seen; and at
  -- least so many cycles have ended in it, and so many requests are decided, as the pass knew.
  pub record HasAllOf (h : History) (p : TurnPass K Entry State g) : Type 0 where
    pub begins : IsPrefix (view p).seen h.made
    pub own : entries_by p.number h.made ≡ entries_by p.number (view p).seen
    pub cycles : (view p).cycles.number ≤ ends_in h.made
    pub tickets : (view p).tickets.number ≤ decided_in h.made

  -- The history at the end: of the same boot, legal and sound, with all entries of these passes and no others; and the
  -- loop is closed.
  pub record ComesHome (first : History) (looping : TurnPass K Entry State g)
      (passes : List (TurnPass K Entry State g)) (h : History) : Type 0 where
    pub opening : h.opening ≡ first.opening
    pub right : IsRight h
    pub looping_is : HasAllOf h looping
    pub passes_are : All (HasAllOf h) passes
    pub no_others : All (λ e. e.who ≤ first.opening.sessions) h.made
    pub closed : (now_of h).closed ≡ true
