-- What the contracts speak of: a pass, what it knows, and its lock.
use Rattle.std.specs.Prelude.{◌≡◌, ℕ, ◌<◌, true, false, List, length, slice_index_or}
use Rattle.turn_lock.specs.declared.kept.Kept.{Ghosts}
use Rattle.turn_lock.specs.declared.lock.TurnLock.{TurnLock}
use Rattle.turn_lock.specs.declared.pass.TurnPass.{TurnPass}
use Rattle.turn_lock.specs.declared.view.SeatView.{SeatView}

module _ {K E G : Type 0} where
  -- how many passes a lock has
  abbrev pub seats_of : TurnLock K E G → ℕ
  seats_of lock = lock.table.shared.key.seats

module _ {K E G : Type 0} {g : Ghosts K E G} where
  -- what a pass knows
  abbrev pub view : TurnPass K E G g → SeatView E G
  view p = p.seat.me.0

  -- it is a pass of this lock
  abbrev pub IsPassOf : TurnLock K E G → TurnPass K E G g → Type 0
  IsPassOf lock p = p.seat.table_id ≡ lock.table.shared.table_id

  -- it is one, and does not hold the turn
  abbrev pub IsReady : TurnLock K E G → TurnPass K E G g → Type 0
  IsReady lock p = IsPassOf lock p × ((view p).holds ≡ false)

  -- it is one, and holds the turn
  abbrev pub HasTurn : TurnLock K E G → TurnPass K E G g → Type 0
  HasTurn lock p = IsPassOf lock p × ((view p).holds ≡ true)

  -- it is still the same pass of the same lock
  abbrev pub IsSamePass : TurnPass K E G g → TurnPass K E G g → Type 0
  IsSamePass p q = (q.number ≡ p.number) × (q.seat.table_id ≡ p.seat.table_id)

  -- it is the same pass, and this is what it knows now
  abbrev pub Becomes : TurnPass K E G g → TurnPass K E G g → SeatView E G → Type 0
  Becomes p q v = IsSamePass p q × (view q ≡ v)

  -- each pass is where it was in the row, with its number, and ready again
  abbrev pub EachStays : TurnLock K E G → List (TurnPass K E G g) → List (TurnPass K E G g) → Type 0
  EachStays lock ps qs =
      (i : ℕ) (p q : TurnPass K E G g) → i < length ps
      → IsReady lock (slice_index_or qs i q) × ((slice_index_or qs i q).number ≡ (slice_index_or ps i p).number)
