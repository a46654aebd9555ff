-- What each step on a word tells the seat that makes it.
use Rattle.std.specs.Prelude.{◌≡◌, ◌≢◌, ℕ, ◌%◌, ◌^◌, ◌≤◌, false, [], ◌∷◌, Contains, Some}
use mathlib.Core.List.{IsPrefix}
use Rattle.atomic_table.specs.Table.{Me, Step}
use Rattle.turn_lock.specs.declared.kept.Shown.{Shown}
use Rattle.turn_lock.specs.declared.table.TheConstants.{CYCLES, TICKETS}
use Rattle.turn_lock.specs.declared.table.Spot.{Spot}
use Rattle.turn_lock.specs.declared.table.Spot.TheVariants.{Home, Counted}
use Rattle.std.specs.declared.snapshot.Snapshot.{Snapshot}
use Rattle.turn_lock.specs.declared.view.SeatView.{SeatView}
use Rattle.turn_lock.specs.declared.kept.Kept.{Ghosts}
use Rattle.turn_lock.specs.Entries.{of, pick}
use Rattle.turn_lock.specs.Views.{known, waiting, at_turn, counted, published, loaded, passed_on}

-- the word of a published number
abbrev pub atomic_word_of : Shown → ℕ
atomic_word_of which = pick which CYCLES TICKETS

module _ {K E G : Type 0} where
  -- it waits with a ticket, of which it found the remainder
  abbrev pub drawn : Step (Spot K) → Me (Spot K) (SeatView E G) → ℕ → Me (Spot K) (SeatView E G) → Type 0
  drawn step me found after = (ticket : ℕ) × (after ≡ (waiting ticket me.0, me.1)) × (found ≡ ticket % 2 ^ 64)

  -- it has put a value home, and passed the turn on
  abbrev pub passes_on : Step (Spot K) → Me (Spot K) (SeatView E G) → ℕ → Me (Spot K) (SeatView E G) → Type 0
  passes_on step me found after = after ≡ (passed_on me.0, [])

  -- it has published the number of this word
  abbrev pub publishes : Step (Spot K) → Me (Spot K) (SeatView E G) → ℕ → Me (Spot K) (SeatView E G) → Type 0
  publishes step me found after =
      (which : Shown) → step.word ≡ atomic_word_of which → after ≡ (published which me.0, me.1)

  module _ (m : Ghosts K E G) where
    -- it found its ticket, holds the turn, and has this value: the lock's ground, and the counted list, which begins
    -- with what it had seen and has no more entries of its own
    pub record Hit (me after : Me (Spot K) (SeatView E G)) : Type 0 where
      pub kept : K
      pub holds : after ≡ (at_turn (m.entries kept) me.0, (0, Home kept) ∷ [])
      pub begins : IsPrefix me.0.seen (m.entries kept)
      pub own : (pass : ℕ) → Contains me.0.mine pass → of m.caller pass me.0.seen ≡ of m.caller pass (m.entries kept)
      pub ground_is : me.0.footing ≡ Some (m.footing kept)

    -- it holds the turn where it found the remainder of its ticket, else nothing changed
    abbrev pub looked : Step (Spot K) → Me (Spot K) (SeatView E G) → ℕ → Me (Spot K) (SeatView E G) → Type 0
    looked step me found after =
        (ticket : ℕ) → me.0.number ≡ Some ticket
        → (found ≡ ticket % 2 ^ 64 → Hit me after) × (found ≢ ticket % 2 ^ 64 → after ≡ me)

    -- it has counted the entries of the value that it named in the slot
    abbrev pub counts : Step (Spot K) → Me (Spot K) (SeatView E G) → ℕ → Me (Spot K) (SeatView E G) → Type 0
    counts step me found after =
        (named : Snapshot K) → me.1 ≡ (0, Counted named) ∷ [] → after ≡ (counted (m.entries named.value) me.0, me.1)

    -- it knows the number of this word, which is not below what it knew, nor below what it has seen, unless it owes
    -- this publish
    pub record Loads (which : Shown) (me : Me (Spot K) (SeatView E G)) (found : ℕ) (after : Me (Spot K) (SeatView E G))
        : Type 0 where
      pub knows : after ≡ (loaded which found me.0, me.1)
      pub grows : (known which me.0).number ≤ found
      pub current : (known which me.0).owes ≡ false → m.shown which me.0.seen ≤ found

    -- a load of a published number, by the word that was loaded
    abbrev pub loads : Step (Spot K) → Me (Spot K) (SeatView E G) → ℕ → Me (Spot K) (SeatView E G) → Type 0
    loads step me found after = (which : Shown) → step.word ≡ atomic_word_of which → Loads which me found after
