-- What a turn comes to, of a pass that was p and is now q.
use Rattle.std.specs.Prelude.{◌≡◌, ◌+◌, false, Some}
use mathlib.Core.List.{IsPrefix}
use Rattle.cm_desk.specs.Desk.{History, IsRight}
use Rattle.cm_model.specs.Sessions.{entries_by}
use Rattle.cm_model.specs.State.{State}
use Rattle.cm_model.specs.declared.entry.Entry.{Entry}
use Rattle.turn_lock.specs.declared.kept.Kept.{Ghosts}
use Rattle.turn_lock.specs.declared.kept.Shown.{Shown}
use Rattle.turn_lock.specs.declared.lock.TurnLock.{TurnLock}
use Rattle.turn_lock.specs.declared.pass.TurnPass.{TurnPass}
use Rattle.turn_lock.specs.Passes.{view, HasTurn}
use Rattle.turn_lock.specs.Views.{known}
use Rattle.shared_desk.specs.Passes.{history_of, IsAt}

module _ {K : Type 0} {g : Ghosts K Entry State} where
  -- A pass has taken one turn. The whole history was then this one:
  pub record TakesTurn (lock : TurnLock K Entry State) (first : History) (p q : TurnPass K Entry State g)
      (found : History) : Type 0 where
    -- it is one of the same boot, begins with what the pass had seen, and has of the pass's entries no more;
    pub opening : found.opening ≡ first.opening
    pub begins : IsPrefix (view p).seen found.made
    pub own : entries_by p.number found.made ≡ entries_by p.number (view p).seen
    -- the pass has one turn more, and as many loads as before, and knows of the published numbers what it knew;
    pub turns : (view q).turns ≡ (view p).turns + 1
    pub loads : (view q).loads ≡ (view p).loads
    pub knows : (which : Shown) → (known which (view q)).number ≡ (known which (view p)).number
    -- it is still the same pass, and does not hold the turn;
    pub still : IsAt lock first q
    pub number : q.number ≡ p.number
    -- and what it has then seen is legal and sound.
    pub right : IsRight (history_of first.opening q)

  -- At a turn no entry was made: what the pass has then seen is the whole history, as it was found.
  pub record Stays (lock : TurnLock K Entry State) (first : History) (p q : TurnPass K Entry State g) : Type 0 where
    pub found : History
    pub turn : TakesTurn lock first p q found
    pub none : history_of first.opening q ≡ found

  -- ---- What its parts promise each other

  -- The pass holds the turn, and this is the whole history:
  pub record Finds (lock : TurnLock K Entry State) (first : History) (p q : TurnPass K Entry State g)
      (found : History) : Type 0 where
    -- legal and sound, of the same boot, beginning with what the pass had seen, and with no more of its entries.
    pub right : IsRight found
    pub opening : found.opening ≡ first.opening
    pub begins : IsPrefix (view p).seen found.made
    pub own : entries_by p.number found.made ≡ entries_by p.number (view p).seen
    -- It is the same pass, has seen all of it, and owes no publish;
    pub turn : HasTurn lock q
    pub number : q.number ≡ p.number
    pub seen : (view q).seen ≡ found.made
    pub footing_is : (view q).footing ≡ Some found.opening
    pub owes_nothing : ((view q).cycles.owes ≡ false) × ((view q).tickets.owes ≡ false)
    -- and else it knows what it knew.
    pub turns : (view q).turns ≡ (view p).turns
    pub loads : (view q).loads ≡ (view p).loads
    pub knows : (which : Shown) → (known which (view q)).number ≡ (known which (view p)).number
