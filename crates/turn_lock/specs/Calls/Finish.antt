-- What `finish` asks and promises.
use Rattle.std.specs.Prelude.{◌≡◌, ℕ, ◌<◌, ◌≤◌, true, false, List, [], map, All, Contains, Some}
use mathlib.Core.List.{IsPrefix}
use Rattle.turn_lock.specs.declared.kept.Kept.{Ghosts}
use Rattle.turn_lock.specs.declared.kept.Shown.{Shown}
use Rattle.turn_lock.specs.declared.lock.TurnLock.{TurnLock}
use Rattle.turn_lock.specs.declared.pass.TurnPass.{TurnPass}
use Rattle.turn_lock.specs.declared.view.SeatView.{SeatView}
use Rattle.turn_lock.specs.Entries.{of}
use Rattle.turn_lock.specs.Passes.{view, seats_of, IsReady}
use Rattle.turn_lock.specs.Rule.{Saw}
use Rattle.turn_lock.specs.Views.{known}

module _ {K E G : Type 0} {g : Ghosts K E G} where
  -- These are all passes of the lock, in whatever order, and none holds the turn.
  pub record AreAll (lock : TurnLock K E G) (passes : List (TurnPass K E G g)) : Type 0 where
    pub ready : All (IsReady lock) passes
    pub all : (pass : ℕ) → pass < seats_of lock → Contains (map (λ p. p.number) passes) pass

-- The list begins with what the pass had seen, has its entries and no more of its number, and what the pass knows was
-- published of a beginning of it.
pub record Keeps {K E G : Type 0} {g : Ghosts K E G} (list : List E) (p : TurnPass K E G g) : Type 0 where
  pub begins : IsPrefix (view p).seen list
  pub own : of g.caller p.number list ≡ of g.caller p.number (view p).seen
  pub knew : (which : Shown) → (known which (view p)).number ≤ g.shown which list

-- The value that is home at the end: it has the lock's ground, keeps what each pass had seen and its entries, and has
-- no entry of another number.
pub record Finishes {K E G : Type 0} {g : Ghosts K E G} (lock : TurnLock K E G) (first : TurnPass K E G g)
    (others : List (TurnPass K E G g)) (kept : K) : Type 0 where
  pub ground_is : (view first).footing ≡ Some (g.footing kept)
  pub first_is : Keeps (g.entries kept) first
  pub others_are : All (Keeps (g.entries kept)) others
  pub no_others : All (λ e. g.caller e < seats_of lock) (g.entries kept)

-- ---- What its parts promise each other

-- what is so of a list by all that this seat has seen, and by what those had seen that were joined into it
pub record Agrees {E G : Type 0} (caller : E → ℕ) (log : List E) (v : SeatView E G) : Type 0 where
  pub saw : Saw caller log v.mine v.seen
  pub absorbed : All (λ t. Saw caller log t.0 t.1) v.absorbed

-- the seat v knows all that w knew
pub record Covers {E G : Type 0} (caller : E → ℕ) (v w : SeatView E G) : Type 0 where
  pub agrees : (log : List E) → Agrees caller log v → Agrees caller log w
  pub numbers : (pass : ℕ) → Contains w.mine pass → Contains v.mine pass
  pub knows : (which : Shown) → (known which w).number ≤ (known which v).number

-- the value that is home at the end, as the seat that all others were joined into knows it
pub record Ends {K E G : Type 0} (m : Ghosts K E G) (seats : ℕ) (v : SeatView E G) (kept : K) : Type 0 where
  pub agrees : Agrees m.caller (m.entries kept) v
  pub ground_is : v.footing ≡ Some (m.footing kept)
  pub knows : (which : Shown) → (known which v).number ≤ m.shown which (m.entries kept)
  pub callers : (pass : ℕ) → seats ≤ pass → of m.caller pass (m.entries kept) ≡ []

-- One seat that the first pass and all others were joined into.
pub record Gathered {K E G : Type 0} {g : Ghosts K E G} (v : SeatView E G) (first : TurnPass K E G g)
    (others : List (TurnPass K E G g)) : Type 0 where
  pub alive : v.alive ≡ true
  pub waits : v.holds ≡ false
  pub footing_is : v.footing ≡ (view first).footing
  pub first_is : Covers g.caller v (view first)
  pub others_are : All (λ p. Covers g.caller v (view p)) others
