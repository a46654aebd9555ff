-- A commit: a set of controllers becomes active, and all that goes by it.
use Rattle.std.specs.Prelude.{◌≡◌, ℕ, Bool, false, List, length}
use Rattle.std.specs.List.{All}
use Rattle.cm_document.specs.Valid.{IsValid}
use Rattle.cm_model.specs.Commit.{commit}
use Rattle.cm_model.specs.Order.{Places, set_of}
use Rattle.cm_model.specs.State.{State, Loaded}
use Rattle.cm_model.specs.Steady.{IsInOrder, AreLoaded, AreConfigured}
use Rattle.cm_model.specs.Sound.{CanRunTogether}
use Rattle.cm_hardware.specs.Wiring.{Wired}
use Rattle.cm_hardware.specs.Holding.{IsHardwareOf, IsMoved}
use Rattle.cm_places.specs.Placed.{Placed, placed_of}
use Rattle.cm_slots.specs.Commits.{TellCommit}
use Rattle.cm_slots.specs.Connections.{widest}
use Rattle.cm_slots.specs.Slots.{Slotted}
use Rattle.request_plan.specs.declared.acts.Switched.{Switched}
use Rattle.cm_resources.specs.CycleResources.{IsAtHome}
use Rattle.cm_resources.specs.ActiveSet.{Listed, TellsActive}
use Rattle.cm_resources.specs.declared.resources.CycleResources.{CycleResources}
use Rattle.cm_resources.specs.Described.{IsAsDescribed}

-- A commit of this state can be made with these: its controllers and its hardware, which may have moved, where nobody
-- has what is not available; the places of interfaces, room for each controller, and who was looked up as active. The
-- flags tell the commit, after which this set is active, with some restarted by name.
pub record CanCommit (s : State) (set again : Places) (places : Placed) (room : ℕ) (slots : List Loaded) (w : Wired)
    (looked : Listed)
    (chains stops starts : List Bool) : Type 0 where
  pub valid : IsValid s.description
  pub placed : places ≡ placed_of s.description
  pub wide : room ≡ widest
  pub loaded : slots ≡ s.loaded
  pub described : All (IsAsDescribed s.description) s.loaded
  pub hardware : IsMoved s w
  pub listed : length looked.active ≡ length s.description.controllers
  pub told : TellCommit s set again chains stops starts
  pub in_order : IsInOrder s
  pub all_loaded : AreLoaded s.loaded set
  pub configured : AreConfigured s.loaded set
  pub together : CanRunTogether s.description s.lives set

-- it was made
pub record HasCommitted (s : State) (set again : Places) (slots : List Loaded) (w : Wired) (looked : Listed) : Type 0
  where
    pub loaded : slots ≡ (commit s set again).loaded
    pub hardware : IsHardwareOf (commit s set again) w
    pub active : TellsActive (length s.description.controllers) slots looked.active
    pub stale : looked.current ≡ false

-- and else nothing changed: of what is looked up, the order and the indices; the room; and of the slots, whether a
-- cycle is aloft
pub record KeepsRest (before after : Listed) (m n : ℕ) (old new : Slotted) : Type 0 where
  pub order : after.order ≡ before.order
  pub run : after.run ≡ before.run
  pub width : n ≡ m
  pub slots : new ≡ record old { loaded = new.loaded }

-- A switch can be done with these: what works in a cycle is at home, and the sets tell a commit that can be made.
pub record CanSwitch (b : CycleResources) (slots : Slotted) (looked : Listed) (c : Switched) : Type 0 where
  pub home : IsAtHome b
  pub down : slots.aloft ≡ false
  pub can : (s : State) × (again : Places)
      × CanCommit s (set_of c.set) again b.robot.value.places b.room slots.loaded b.robot.value.hardware looked
      c.chained c.stopped c.started

-- it was done
abbrev pub HasSwitched : CycleResources → CycleResources → Slotted → Slotted → Listed → Listed → Switched → Type 0
HasSwitched b b' slots slots' looked looked' c = (s : State) (again : Places)
    → CanCommit s (set_of c.set) again b.robot.value.places b.room slots.loaded b.robot.value.hardware looked c.chained
    c.stopped c.started
    → HasCommitted s (set_of c.set) again slots'.loaded b'.robot.value.hardware looked'
