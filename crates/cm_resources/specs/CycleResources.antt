-- What a cycle works on, at home or aloft.
use Rattle.std.specs.Prelude.{◌≡◌, ℕ, ◌≤◌, ◌==◌, Bool, true, false, not, List, [], length, map, find}
use Rattle.std.specs.Prelude.{vec_len, vec_capacity, is_some, Box}
use Rattle.std.specs.Prelude.{Option, None, Some, option_map, unwrap_or, IfSome, IsSomeAnd}
use Rattle.std.specs.List.{AllByRecursion}
use Rattle.std.specs.declared.alloc.Global.{Global}
use Rattle.cm_document.specs.Places.{interfaces_of}
use Rattle.cm_document.specs.declared.description.Description.{Description}
use Rattle.cm_model.specs.Cycle.{period}
use Rattle.cm_model.specs.State.{MailAloft, boot}
use Rattle.cm_model.specs.declared.blanks.Blanks.{Blanks}
use Rattle.cm_model.specs.declared.member.Member.{Member}
use Rattle.cm_hardware.specs.Holding.{IsHardwareOf}
use Rattle.cm_hardware.specs.Shown.{HasLinesFor, Shows}
use Rattle.cm_hardware.specs.declared.lists.Lists.{Lists}
use Rattle.cm_places.specs.Placed.{placed_of}
use Rattle.cm_slots.specs.Connections.{widest}
use Rattle.rt_flight.specs.Flights.{TellsNothing}
use Rattle.rt_flight.specs.Workspaces.{WorkspaceFacts, IsFitted}
use Rattle.rt_flight.specs.declared.context.CycleContext.{CycleContext}
use Rattle.rt_flight.specs.declared.robot.Robot.{Robot}
use Rattle.stop_plan.specs.Ending.{HasFlags}
use Rattle.stop_plan.specs.declared.ending.Ending.{Ending}
use Rattle.switch_plan.specs.Relations.{relations_of}
use Rattle.cm_resources.specs.CycleNeeds.{AreKept, AreWorkspaces, CanPrepare, IsFittedOut, IsSizeOf, stands_for}
use Rattle.cm_resources.specs.declared.resources.CycleResources.{CycleResources}
use Rattle.cm_resources.specs.declared.needs.HardwareSize.{HardwareSize}

-- What is seen of it: what a cycle works on and the sets of its end, as they stand at home, or as they were when they
-- left; what of it is at home; the mail that is aloft; the workspaces that are at home, and who stands there; the
-- places of the controllers whose update failed in the cycle that landed last, where the next has not begun; the lists
-- that were written down, whether they are those of the hardware, and room for the next; and for how many of those that
-- run there is room for a box and for a workspace.
pub record Base : Type 0 where
  pub robot : Robot
  pub ending : Ending
  pub idle_context : Option (Box CycleContext Global)
  pub mails : List MailAloft
  pub workspaces : List WorkspaceFacts
  pub members : List Member
  pub erred : List ℕ
  pub lists : Lists
  pub told : Bool
  pub next_lists : Lists
  pub size : HardwareSize
  pub room : ℕ
  pub stands : ℕ
  pub box_places : ℕ

-- that of these resources, with room for so many boxes
abbrev pub base_of : CycleResources → ℕ → Base
base_of b box_places = record {
  robot = b.robot.value;
  ending = b.ending.value;
  idle_context = b.idle_context;
  mails = b.mails.value.items;
  workspaces = b.buffers.workspaces.items;
  members = b.members.value.items;
  erred = b.erred.value.items;
  lists = b.lists;
  told = b.told;
  next_lists = b.next_lists.value;
  size = b.size;
  room = b.room;
  stands = vec_capacity b.buffers.workspaces;
  box_places = box_places;
}

-- the place of the controller of this serial among these; 0 if none of them has it
abbrev pub place_among : List Member → ℕ → ℕ
place_among members serial = unwrap_or (option_map (λ m. m.place) (find (λ m. m.serial == serial) members)) 0

-- What is at home is this, with these who flew last, the places of those whose update failed, and this room for lists;
-- and in the room that it has for a record nothing is told.
pub record IsHome (g : Robot) (e : Ending) (members : List Member) (erred_at : List ℕ) (lists : Lists)
    (h : Box CycleContext Global) : Type 0 where
  pub robot : h.value.robot ≡ g
  pub ending : h.value.ending ≡ e
  pub order : h.value.order.items ≡ members
  pub erred : h.value.erred.items ≡ erred_at
  pub next_lists : h.value.lists ≡ lists
  pub told : IfSome h.value.room TellsNothing

-- This works in cycles before the first one: nobody flew yet, and there is no room to tell.
pub record IsIdle (g : Robot) (e : Ending) (room : Lists) (k : CycleContext) : Type 0 where
  pub robot : k.robot ≡ g
  pub ending : k.ending ≡ e
  pub lists : k.lists ≡ room
  pub order : k.order.items ≡ []
  pub erred : k.erred.items ≡ []
  pub told : k.room ≡ None

-- there is room for the lists of a description
pub record HasLines (d : Description) (l : Lists) : Type 0 where
  pub components : length d.components ≤ vec_capacity l.components
  pub loans : vec_len l.loans ≡ length (interfaces_of d)

-- What works in a cycle is at home, and so it is.
abbrev pub IsAtHome : CycleResources → Type 0
IsAtHome b = IsSomeAnd b.idle_context
    (IsHome b.robot.value b.ending.value b.members.value.items b.erred.value.items b.next_lists.value)

-- The lists of its hardware can be told: where it is at home it is so, and else they were written down.
pub record IsListing (b : CycleResources) : Type 0 where
  pub home : IfSome b.idle_context
      (IsHome b.robot.value b.ending.value b.members.value.items b.erred.value.items b.next_lists.value)
  pub shown : is_some b.idle_context ≡ false → Shows b.robot.value.hardware b.lists

-- What is kept of it, while a cycle is aloft or not, whose controllers these are: what is at home is so, and between
-- two cycles all of it is; each workspace that is at home is fitted, and it is known who stands there; so is how much
-- there can be to tell; there is room for the lists, which are written down while it is away, for the next ones, while
-- none is aloft, and for each box and each workspace that is away then. Where the lists are told, they are those of the
-- hardware.
pub record IsBased (d : Description) (aloft : Bool) (order : List Member) (b : Base) : Type 0 where
  pub wide : b.room ≡ widest
  pub flags : HasFlags (length d.controllers) b.ending
  pub home : IfSome b.idle_context (IsHome b.robot b.ending b.members b.erred b.next_lists)
  pub home_is : is_some b.idle_context ≡ not aloft
  pub fitted : AllByRecursion (IsFitted b.robot.places) b.workspaces
  pub ordered : aloft ≡ false → b.members ≡ map stands_for b.workspaces
  pub size : IsSizeOf d b.size
  pub lines : HasLines d b.lists
  pub shown : is_some b.idle_context ≡ false → Shows b.robot.hardware b.lists
  pub told : b.told ≡ true → Shows b.robot.hardware b.lists
  pub next_lines : aloft ≡ false → HasLines d b.next_lists
  pub stands : aloft ≡ true → length order ≤ b.stands
  pub box_places : aloft ≡ true → length order ≤ b.box_places

-- Of resources whose hardware changed, all else stays, and it is at home. The lists may not be those of the hardware
-- any more.
pub record IsRewired (before after : CycleResources) : Type 0 where
  pub robot : after.robot.value ≡ record before.robot.value { hardware = after.robot.value.hardware }
  pub ending : after.ending.value ≡ before.ending.value
  pub home : IsAtHome after
  pub mails : after.mails.value.items ≡ before.mails.value.items
  pub buffers : after.buffers ≡ before.buffers
  pub members : after.members.value.items ≡ before.members.value.items
  pub erred : after.erred.value.items ≡ before.erred.value.items
  pub lists : after.lists ≡ before.lists
  pub untold : after.told ≡ false
  pub next_lists : after.next_lists.value ≡ before.next_lists.value
  pub size : after.size ≡ before.size
  pub room : after.room ≡ before.room

-- It was made ready for a cycle, or some of what was left over is lost: it is known still who stands at its workspaces,
-- it is at home, and all else stays.
pub record IsMadeReady (before after : CycleResources) : Type 0 where
  pub kept : AreKept before.robot.value.places after.buffers.workspaces.items after.members.value.items
  pub home : IsAtHome after
  pub resources : after ≡ record before {
    idle_context = after.idle_context;
    members = after.members;
    buffers = after.buffers;
  }

-- All is ready in it for a cycle in which these controllers are active, of so many that are loaded.
pub record IsPrepared (d : Description) (order : List Member) (loaded : ℕ) (b : CycleResources) : Type 0 where
  pub workspaces : AreWorkspaces b.robot.value.places order b.buffers.workspaces.items
  pub no_mail : b.buffers.mails.items ≡ []
  pub mails : loaded ≤ vec_capacity b.buffers.mails
  pub context : IsSomeAnd b.idle_context (λ h. IsFittedOut d b.robot.value.places order h.value)

-- It can be prepared for these controllers: it is that of the description, each is described, and what was left over is
-- kept.
pub record CanBePrepared (d : Description) (b : CycleResources) (order : List Member) : Type 0 where
  pub robot : CanPrepare d b.robot.value.places b.size order
  pub kept : AreKept b.robot.value.places b.buffers.workspaces.items b.members.value.items

-- It can be prepared where it stands: it is at home, and no update failed.
pub record CanBePreparedAtHome (d : Description) (b : CycleResources) (order : List Member) : Type 0 where
  pub home : IsAtHome b
  pub none_erred : b.erred.value.items ≡ []
  pub can : CanBePrepared d b order

-- What works in a cycle can leave: it is at home, and there is room for its lists, which are those of its hardware
-- where they are told.
pub record CanSendOut (b : CycleResources) : Type 0 where
  pub home : IsAtHome b
  pub lines : HasLinesFor b.robot.value.hardware b.lists
  pub told : b.told ≡ true → Shows b.robot.value.hardware b.lists

-- It left as it was; and the lists here are those of its hardware.
pub record HasSentOut (before after : CycleResources) (h : Box CycleContext Global) : Type 0 where
  pub idle_context : before.idle_context ≡ Some h
  pub robot : h.value.robot ≡ before.robot.value
  pub ending : h.value.ending ≡ before.ending.value
  pub next_lists : h.value.lists ≡ before.next_lists.value
  pub resources : after ≡ record before { idle_context = None; lists = after.lists; told = after.told }
  pub shown : Shows before.robot.value.hardware after.lists
  pub components : vec_capacity after.lists.components ≡ vec_capacity before.lists.components
  pub loans : vec_len after.lists.loans ≡ vec_len before.lists.loans

-- This is at home, where the lists that it wrote down are told, which are those of its hardware where nothing failed;
-- those of before are room for the next; it has the places of those whose update failed; and no mail is aloft.
pub record HasTakenBack (before after : CycleResources) (k : CycleContext) : Type 0 where
  pub robot : after.robot.value ≡ k.robot
  pub ending : after.ending.value ≡ k.ending
  pub home : IsAtHome after
  pub no_mail : after.mails.value.items ≡ []
  pub workspaces : after.buffers.workspaces ≡ before.buffers.workspaces
  pub order : after.members.value.items ≡ k.order.items
  pub erred : after.erred.value.items ≡ map (place_among k.order.items) k.erred.items
  pub lists : after.lists ≡ k.lists
  pub told : after.told ≡ not k.has_failed
  pub next_lists : after.next_lists.value ≡ before.lists
  pub size : after.size ≡ before.size
  pub room : after.room ≡ before.room

-- The list of those whose update failed was emptied at home, and all else stays.
pub record HasForgotten (before after : CycleResources) : Type 0 where
  pub resources : after ≡ record before { idle_context = after.idle_context; erred = after.erred }
  pub home : IsAtHome after
  pub none_erred : after.erred.value.items ≡ []

-- At start the hardware is that of the state at boot, whatever its blanks and sessions, with what is worked out of the
-- description.
pub record IsRobotAtStart (d : Description) (g : Robot) : Type 0 where
  pub hardware : (blanks : Blanks) (sessions : ℕ) → IsHardwareOf (boot d blanks sessions) g.hardware
  pub placed : g.places ≡ placed_of d
  pub related : g.relations ≡ relations_of d
  pub timed : g.period_us ≡ period d

-- This works in cycles at start, with these sets of the end: nobody flew yet, no update failed, there is room for the
-- lists of the hardware, and none to tell.
pub record IsContextAtStart (d : Description) (sets : Ending) (k : CycleContext) : Type 0 where
  pub robot : IsRobotAtStart d k.robot
  pub ending : k.ending ≡ sets
  pub lines : HasLinesFor k.robot.hardware k.lists
  pub order : k.order.items ≡ []
  pub erred : k.erred.items ≡ []
  pub told : k.room ≡ None

-- At start the hardware is that of the state at boot, whatever its blanks and sessions, and all is at home.
pub record IsAtStart (d : Description) (b : CycleResources) : Type 0 where
  pub hardware : (blanks : Blanks) (sessions : ℕ) → IsHardwareOf (boot d blanks sessions) b.robot.value.hardware
  pub placed : b.robot.value.places ≡ placed_of d
  pub related : b.robot.value.relations ≡ relations_of d
  pub timed : b.robot.value.period_us ≡ period d
  pub no_mail : b.mails.value.items ≡ []
  pub none_erred : b.erred.value.items ≡ []
  pub based : (box_places : ℕ) → IsBased d false [] (base_of b box_places)
