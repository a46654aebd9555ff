-- What is published of a desk's history.
use Rattle.std.specs.Prelude.{◌≡◌, ℕ, ◌≤◌, List, [], ◌++◌, refl}
use Rattle.cm_model.specs.Histories.{ends_in, decided_in}
use Rattle.cm_model.specs.declared.entry.Entry.{Entry}
use Rattle.cm_model.proofs.CountLemmas.{ends_grow, decided_grow}
use Rattle.turn_lock.specs.declared.kept.Shown.{Shown}
use Rattle.turn_lock.specs.declared.kept.Shown.TheVariants.{Cycles, Tickets}
use Rattle.turn_lock.specs.Entries.{pick}

-- How many cycles have ended in these entries, and how many requests are decided in them.
abbrev pub shown_of : Shown → List Entry → ℕ
shown_of which made = pick which (ends_in made) (decided_in made)

-- of no entries it is 0,
pub none_shown : (which : Shown) → shown_of which [] ≡ 0
none_shown Cycles = refl
none_shown Tickets = refl

-- and with more entries it is no less
pub more_shown : (which : Shown) (xs ys : List Entry) → shown_of which xs ≤ shown_of which (xs ++ ys)
more_shown Cycles xs ys = ends_grow xs ys
more_shown Tickets xs ys = decided_grow xs ys
