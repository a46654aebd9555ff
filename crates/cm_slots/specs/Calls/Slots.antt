-- What it asks to lend boxes and to park them, and what that leaves.
use Rattle.std.specs.Prelude.{◌≡◌, ℕ, ◌+◌, ◌<◌, ◌≤◌, true, false, List, [], ◌++◌, length, map, Option}
use Rattle.std.specs.List.{AllByRecursion}
use Rattle.cm_document.specs.declared.life.Life.TheVariants.{Active}
use Rattle.cm_model.specs.Cycle.{active_order, cycle}
use Rattle.cm_model.specs.State.{State, Loaded}
use Rattle.cm_model.specs.declared.data.CtlData.{CtlData}
use Rattle.cm_slots.specs.Lent.{without_boxes, ctls_at, CanLeave, with_ctls, with_boxes}
use Rattle.cm_slots.specs.Lives.{IsKept}
use Rattle.cm_slots.specs.Slots.{Slotted, IsRunOf, AreDataIn}

-- The boxes of the controllers that run can be lent, at these indices: no box is away, and there is room for so many
-- among none.
pub record CanLend (slots : Slotted) (indices : List ℕ) (boxes : List CtlData) (capacity : ℕ) : Type 0 where
  pub home : slots.aloft ≡ false
  pub run : (s : State) × IsRunOf s slots.loaded indices
  pub empty : boxes ≡ []
  pub room : length indices ≤ capacity

-- They are lent: these are they, in the order of updates.
pub record HasLent (before after : Slotted) (indices : List ℕ) (ctls : List CtlData) : Type 0 where
  pub slots : after ≡ record before { aloft = true }
  pub boxes : (s : State) → IsRunOf s before.loaded indices → ctls ≡ map (λ l. l.ctl) (active_order s)
  pub running : AllByRecursion (IsKept Active) ctls

-- These boxes can come back to these indices, where they were lent: one for each, and each runs.
pub record CanPark (slots : Slotted) (indices : List ℕ) (ctls : List CtlData) : Type 0 where
  pub lent : slots.aloft ≡ true
  pub run : (s : State) × IsRunOf s slots.loaded indices
  pub as_many : length ctls ≡ length indices
  pub running : AllByRecursion (IsKept Active) ctls

-- They are back. Where they have the data that the cycle of the state gives their controllers, the loaded controllers
-- are those after the cycle.
pub record HasParked (before after : Slotted) (indices : List ℕ) (ctls : List CtlData) : Type 0 where
  pub slots : after ≡ record before { loaded = after.loaded; aloft = false }
  pub landed : (s : State) → IsRunOf s before.loaded indices → AreDataIn (cycle s).loaded (active_order s) ctls
      → after.loaded ≡ (cycle s).loaded

-- ---- By place

-- The boxes at these indices can leave one after the other: there is a slot for each, with a place for its box, and
-- room for so many beside those that have left.
pub record CanLendEach (loaded : List Loaded) (boxes : List (Option CtlData)) (run : List ℕ) (count capacity : ℕ)
    : Type 0 where
  pub can : CanLeave loaded run boxes
  pub within : AllByRecursion (λ k. k < length loaded) run
  pub places : length boxes ≡ length loaded
  pub room : count + length run ≤ capacity

-- They have left, after those that had; and where these run, so do all.
pub record HaveLeft (loaded : List Loaded) (run : List ℕ) (before after : List (Option CtlData))
    (had has : List CtlData) : Type 0 where
  pub left : after ≡ without_boxes run before
  pub lent : has ≡ had ++ ctls_at loaded run
  pub running : AllByRecursion (IsKept Active) had → AllByRecursion (IsKept Active) has

-- These boxes can come back to these indices, one for each: there is a slot for each, with a place for its box, and
-- each runs.
pub record CanParkEach (loaded : List Loaded) (boxes : List (Option CtlData)) (run : List ℕ) (ctls : List CtlData) :
    Type 0 where
  pub within : AllByRecursion (λ k. k < length loaded) run
  pub places : length boxes ≡ length loaded
  pub as_many : length ctls ≡ length run
  pub running : AllByRecursion (IsKept Active) ctls

-- They are back.
pub record AreBack (run : List ℕ) (ctls : List CtlData) (old new : List Loaded) (had has : List (Option CtlData))
    : Type 0 where
  pub slots : new ≡ with_ctls run ctls old
  pub boxes : has ≡ with_boxes run ctls had
