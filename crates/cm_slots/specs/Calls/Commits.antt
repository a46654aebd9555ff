-- What a commit asks of the loaded controllers.
use Rattle.std.specs.Prelude.{◌≡◌, ℕ, ◌<◌, false, List, length, map, Option, Some}
use Rattle.std.specs.List.{All, AllByRecursion}
use Rattle.cm_model.specs.State.{Loaded}
use Rattle.cm_model.specs.declared.data.CtlData.{CtlData}
use Rattle.cm_places.specs.Placed.{Placed}
use Rattle.cm_slots.specs.Commits.{CanCome}
use Rattle.cm_slots.specs.Connections.{IsConnected, HasRoom}
use Rattle.cm_slots.specs.Slots.{Slotted, box_of}

-- No box is away, each controller stands on a board of so many interfaces, and there is room for what it reads.
pub record CanCommit (slots : Slotted) (placed : Placed) (board : ℕ) (room : ℕ) : Type 0 where
  pub home : slots.aloft ≡ false
  pub connected : AllByRecursion (IsConnected placed board) slots.loaded
  pub has_room : AllByRecursion (HasRoom placed room) slots.loaded

-- The same of these controllers, whose boxes have these data.
pub record CanCommitAll (loaded : List Loaded) (boxes : List (Option CtlData)) (placed : Placed) (board : ℕ) (room : ℕ)
    : Type 0 where
  pub home : boxes ≡ map (box_of false) loaded
  pub connected : AllByRecursion (IsConnected placed board) loaded
  pub has_room : AllByRecursion (HasRoom placed room) loaded

-- The same of one.
pub record CanCommitOne (l : Loaded) (box : Option CtlData) (placed : Placed) (board : ℕ) (room : ℕ) : Type 0 where
  pub home : box ≡ Some l.ctl
  pub connected : IsConnected placed board l
  pub has_room : HasRoom placed room l

-- Its box is there, and it can be given the states at these places of a board of so many interfaces, in room for so
-- many.
pub record CanStart (l : Loaded) (box : Option CtlData) (board : ℕ) (reads : List ℕ) (room : ℕ) : Type 0 where
  pub home : box ≡ Some l.ctl
  pub there : All (λ place. place < board) reads
  pub as_many : room ≡ length reads
  pub can : CanCome (length reads) l
