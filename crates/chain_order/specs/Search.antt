-- What a search over links has seen, and what one step of it does.
use Rattle.std.specs.Prelude.{◌≡◌, ◌⊎◌, ℕ, ◌+◌, Bool, true, false, not, List, length, count_by, slice_index_or, All}
use Rattle.std.specs.Prelude.{Contains}

-- for each place whether it was reached, and those of the reached places whose links are still to be followed
pub record Searched : Type 0 where
  pub reached : List Bool
  pub waiting : List ℕ

-- the search has reached the place
abbrev pub IsReached : Searched → ℕ → Type 0
IsReached seen place = slice_index_or seen.reached place false ≡ true

-- how many turns are left at most: one for each place that waits or may come to wait
abbrev pub turns_left : Searched → ℕ
turns_left seen = count_by not seen.reached + length seen.waiting

-- The search has come to these places too: those among them that it had not reached now wait, and nothing else has
-- changed.
pub record Spreads (old new : Searched) (places : List ℕ) : Type 0 where
  pub arrived : All (IsReached new) places
  pub kept : (p : ℕ) → IsReached old p → IsReached new p
  pub fresh : (p : ℕ) → IsReached new p → IsReached old p ⊎ (Contains places p × Contains new.waiting p)
  pub still_waiting : (p : ℕ) → Contains old.waiting p → Contains new.waiting p
  pub waiting_reached : (p : ℕ) → Contains new.waiting p → Contains old.waiting p ⊎ IsReached new p
  pub places_kept : length new.reached ≡ length old.reached
  pub turns_kept : turns_left new ≡ turns_left old
