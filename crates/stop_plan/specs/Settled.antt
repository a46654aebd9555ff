-- What is decided once it is known who must stop.
use Rattle.std.specs.Prelude.{◌≡◌, ℕ, Bool, not, ◌&&◌, ◌||◌, List}
use Rattle.cm_model.specs.Order.{Places, set_of}
use Rattle.cm_model.specs.declared.member.Member.{Member}
use Rattle.stop_plan.specs.Reports.{places_where, is_chained_by, changes_mode}
use Rattle.stop_plan.specs.declared.ending.Ending.{Ending}
use Rattle.stop_plan.specs.declared.sets.Change.{Change}
use Rattle.stop_plan.specs.declared.sets.Change.TheVariants.{Stops, Restarts}

-- those of the active controllers that do not fall
abbrev pub staying : List Member → Places → Places
staying order fallen = places_where (λ m. not (fallen m.place)) order

-- It is stopped where one set of active controllers comes after another, if it was active: it is not after, or its
-- chained mode changes.
abbrev pub is_stopped_by : List (List ℕ) → Places → Places → ℕ → Bool
is_stopped_by leaders before after p = not (after p) || changes_mode leaders before after p

-- It is started again, if it was active: it still is, and its chained mode changes.
abbrev pub is_started_by : List (List ℕ) → Places → Places → ℕ → Bool
is_started_by leaders before after p = after p && changes_mode leaders before after p

-- whether it changes so
abbrev pub is_changed_by : Change → List (List ℕ) → Places → Places → ℕ → Bool
is_changed_by Stops = is_stopped_by
is_changed_by Restarts = is_started_by

-- Of the controllers that were active, in the order of updates, these fall and the others stay; the sets of those to
-- stop and to start, and of those that are chained after it, are worked out by who precedes whom.
pub record IsSettled (leaders : List (List ℕ)) (order : List Member) (was falling : List Bool) (e : Ending) : Type 0
  where
    pub active : e.active ≡ was
    pub fallen : e.fallen ≡ falling
    pub set : set_of e.set ≡ staying order (set_of falling)
    pub stopped : set_of e.stopped ≡ places_where (λ m. is_stopped_by leaders (set_of was) (set_of e.set) m.place) order
    pub started : set_of e.started ≡ places_where (λ m. is_started_by leaders (set_of was) (set_of e.set) m.place) order
    pub chained : set_of e.chained ≡ is_chained_by leaders (set_of e.set)
