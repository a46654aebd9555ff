-- The landing of a flight, in its parts: the boxes and what works in a cycle come home, and then those are stopped that
-- failed.
use Rattle.std.specs.Prelude.{◌≡◌, ℕ, ◌≤◌, true, false, List, [], length, map, vec_capacity}
use Rattle.std.specs.List.{All, AllByRecursion}
use Rattle.cm_document.specs.Valid.{IsValid}
use Rattle.cm_model.specs.Cycle.{cycle, landed, after_cycle, failed_in}
use Rattle.cm_model.specs.Serials.{IsNumbered}
use Rattle.cm_model.specs.State.{State, Loaded}
use Rattle.cm_model.specs.Steady.{IsSteady}
use Rattle.cm_hardware.specs.Holding.{IsHardwareOf, IsMoved}
use Rattle.cm_hardware.specs.Shown.{Shows}
use Rattle.cm_hardware.specs.Wiring.{Wired}
use Rattle.cm_places.specs.Placed.{placed_of}
use Rattle.cm_slots.specs.Connections.{widest}
use Rattle.cm_slots.specs.Slots.{Slotted}
use Rattle.rt_flight.specs.Flights.{FlightFacts, IsComputed}
use Rattle.rt_flight.specs.Workspaces.{IsFitted}
use Rattle.rt_flight.specs.declared.context.CycleContext.{CycleContext}
use Rattle.stop_plan.specs.Ending.{HasFlags, IsEndingOf, told_in, erred_in, members_in_order}
use Rattle.cm_resources.specs.CycleResources.{place_among, HasLines, IsAtHome}
use Rattle.cm_resources.specs.ActiveSet.{Listed, IsListedOf}
use Rattle.cm_resources.specs.CycleNeeds.{stands_for}
use Rattle.cm_resources.specs.Described.{IsAsDescribed}
use Rattle.cm_resources.specs.declared.resources.CycleResources.{CycleResources}

-- The flight can land in this state, whose cycle is aloft, which is steady and whose serials differ: it is computed.
pub record CanLand (s : State) (flight : FlightFacts) : Type 0 where
  pub aloft : s.aloft ≡ true
  pub steady : IsSteady s
  pub numbered : IsNumbered s
  pub computed : IsComputed s flight

-- The cycle of the state has landed with these, so it can be settled who stops and who stays: its controllers, its
-- hardware, which may have moved, and who was looked up as active.
pub record HasLanded (s : State) (slots : List Loaded) (w : Wired) (width : ℕ) (looked : Listed) : Type 0 where
  pub valid : IsValid s.description
  pub steady : IsSteady s
  pub described : All (IsAsDescribed s.description) s.loaded
  pub loaded : slots ≡ (landed s (cycle s)).loaded
  pub hardware : IsMoved (landed s (cycle s)) w
  pub wide : width ≡ widest
  pub listed : IsListedOf s looked

-- And so it is settled.
pub record HasSettled (s : State) (slots : List Loaded) (w : Wired) (looked : Listed) : Type 0 where
  pub loaded : slots ≡ (after_cycle s (cycle s)).loaded
  pub hardware : IsHardwareOf (after_cycle s (cycle s)) w
  pub listed : IsListedOf (after_cycle s (cycle s)) looked

-- So it can be settled, with the sets of what came home, where something failed.
pub record CanSettle (s : State) (slots : Slotted) (k : CycleContext) (width : ℕ) (looked : Listed) : Type 0 where
  pub landed : HasLanded s slots.loaded k.robot.hardware width looked
  pub down : slots.aloft ≡ false
  pub placed : k.robot.places ≡ placed_of s.description
  pub quiet : k.has_failed ≡ false → (failed_in s ≡ []) × (erred_in (told_in s) ≡ [])
  pub ending : k.has_failed ≡ true → IsEndingOf s k.ending

-- Of what came home it changes the hardware at most, and where nothing failed nothing.
pub record IsSettledIn (before after : CycleContext) : Type 0 where
  pub context : after ≡ record before { robot = record before.robot { hardware = after.robot.hardware } }
  pub quiet : before.has_failed ≡ false → after ≡ before

-- ---- All of it

-- The flight comes home to these: the controllers of the state, whose boxes are away; who was looked up as active; and
-- resources with room for the lists, for the workspaces and for the boxes.
pub record CanComeHome (s : State) (slots : Slotted) (looked : Listed) (b : CycleResources) (box_room : ℕ)
    (flight : FlightFacts)
    : Type 0 where
  pub lands : CanLand s flight
  pub valid : IsValid s.description
  pub described : All (IsAsDescribed s.description) s.loaded
  pub loaded : slots.loaded ≡ s.loaded
  pub away : slots.aloft ≡ true
  pub listed : IsListedOf s looked
  pub current : looked.current ≡ true
  pub wide : b.room ≡ widest
  pub lines : HasLines s.description b.lists
  pub stands : length looked.order ≤ vec_capacity b.buffers.workspaces
  pub box_places : length looked.order ≤ box_room

-- It came home: all is as after the cycle, and at home, with the places of those whose update failed; the lists, where
-- they are told, are those of the hardware.
pub record HasComeHome (s : State) (before after : Slotted) (looked : Listed) (b b' : CycleResources)
    (flight : FlightFacts)
    : Type 0 where
  pub settled : HasSettled s after.loaded b'.robot.value.hardware looked
  pub slots : after ≡ record before { loaded = after.loaded; aloft = false }
  pub robot : b'.robot.value ≡ record flight.robot { hardware = b'.robot.value.hardware }
  pub home : IsAtHome b'
  pub flags : HasFlags (length s.description.controllers) b'.ending.value
  pub fitted : AllByRecursion (IsFitted b'.robot.value.places) b'.buffers.workspaces.items
  pub ordered : b'.members.value.items ≡ map stands_for b'.buffers.workspaces.items
  pub erred : b'.erred.value.items ≡ map (place_among (members_in_order s)) (erred_in (told_in s))
  pub no_mail : b'.mails.value.items ≡ []
  pub lines : HasLines s.description b'.lists
  pub told : b'.told ≡ true → Shows b'.robot.value.hardware b'.lists
  pub next_lines : HasLines s.description b'.next_lists.value
  pub size : b'.size ≡ b.size
  pub room : b'.room ≡ b.room
