-- When what a pass's seat knows and holds is right: it holds the turn, or it is idle.
use Rattle.std.specs.Prelude.{ℕ, ◌==◌, Bool, true, false, cond, not, ◌&&◌, List, [], ◌∷◌, is_none}
use Rattle.atomic_table.specs.Table.{Me}
use Rattle.turn_lock.specs.declared.table.Spot.{Spot}
use Rattle.turn_lock.specs.declared.table.Spot.TheVariants.{Home, Away, Counted}
use Rattle.turn_lock.specs.declared.view.SeatView.{SeatView}

-- the slot, in the hands of the turn's holder, has no value in it
abbrev pub is_emptied : {K : Type 0} → Spot K → Bool
is_emptied (Home kept) = false
is_emptied Away = true
is_emptied (Counted named) = true

-- of the table's one slot: a seat holds it, emptied
abbrev pub has_slot : {K : Type 0} → List (ℕ × Spot K) → Bool
has_slot [] = false
has_slot (x ∷ []) = (x.0 == 0) && is_emptied x.1
has_slot (x ∷ y ∷ xs) = false

-- the list has nothing
abbrev pub is_nil : {A : Type 0} → List A → Bool
is_nil [] = true
is_nil (x ∷ xs) = false

module _ {K E G : Type 0} where
  -- no ticket is out, no slot held and no publish owed
  abbrev pub is_idle : Me (Spot K) (SeatView E G) → Bool
  is_idle me = is_none me.0.number && is_nil me.1 && not me.0.cycles.owes && not me.0.tickets.owes

  -- no other pass was joined into it, and it holds the turn or is idle
  abbrev pub stands : Me (Spot K) (SeatView E G) → Bool
  stands me = is_nil me.0.absorbed && cond me.0.holds (has_slot me.1) (is_idle me)
