-- The memory that a cycle takes when it goes aloft.
use Rattle.std.specs.Prelude.{◌≡◌, ℕ, ◌≤◌, ◌<◌, ◌+◌, if◌then◌else◌, List, [], ◌∷◌, length, map, sum_by, vec_capacity}
use Rattle.std.specs.Prelude.{IfSome, IsSomeAnd}
use Rattle.std.specs.List.{All, AllByRecursion}
use Rattle.cm_document.specs.Params.{kind_of}
use Rattle.cm_document.specs.declared.description.CompDesc.{CompDesc}
use Rattle.cm_document.specs.declared.description.Description.{Description}
use Rattle.cm_model.specs.Kinds.{publishes}
use Rattle.cm_model.specs.Order.{controller_at}
use Rattle.cm_model.specs.declared.member.Member.{Member}
use Rattle.cm_storage.specs.declared.record_room.RecordRoom.{RecordRoom}
use Rattle.cm_hardware.specs.Wiring.{Wired, one_if, can_fail}
use Rattle.chain_order.specs.Links.{linked}
use Rattle.cm_places.specs.Placed.{Placed, placed_of}
use Rattle.rt_flight.specs.Flights.{TellsNothing}
use Rattle.rt_flight.specs.Workspaces.{WorkspaceFacts, IsFitted}
use Rattle.rt_flight.specs.declared.context.CycleContext.{CycleContext}
use Rattle.cm_resources.specs.declared.resources.CycleBuffers.{CycleBuffers}
use Rattle.cm_resources.specs.declared.needs.HardwareSize.{HardwareSize}
use Rattle.cm_resources.specs.declared.needs.CycleNeeds.{CycleNeeds}

-- ---- Room to tell of a cycle

-- of how many components a read or a write can fail
abbrev pub failing : List CompDesc → ℕ
failing [] = 0
failing (c ∷ cs) = one_if (can_fail c) + failing cs

-- how many joints they have
abbrev pub joints : List CompDesc → ℕ
joints [] = 0
joints (c ∷ cs) = length c.joints + joints cs

-- this is hardware of those components
abbrev pub IsBuiltAs : Description → Wired → Type 0
IsBuiltAs d w = d.components ≡ map (λ m. m.hardware.description) w.components

-- how many values a controller gives out, by its place in the description, and how many numbers it publishes
abbrev pub outs_at : Placed → Member → ℕ
outs_at placed m = length (linked placed.claims m.place)

abbrev pub numbers_at : Description → Placed → Member → ℕ
numbers_at d placed m =
    if publishes (kind_of (controller_at d.controllers m.place).params) then length (linked placed.reads m.place) else 0

-- Nothing is told yet in this record, and it has room for all that a cycle can tell when these controllers are active.
pub record HasRoom (d : Description) (placed : Placed) (order : List Member) (r : RecordRoom) : Type 0 where
  pub no_failure : r.failed.items ≡ []
  pub failures : failing d.components ≤ r.failed.room
  pub no_body : r.bodies.items ≡ []
  pub bodies : joints d.components ≤ r.bodies.room
  pub none_ran : r.ran.rans ≡ []
  pub heads : length order ≤ r.ran.heads
  pub values : sum_by (outs_at placed) order ≤ r.ran.values
  pub numbers : sum_by (numbers_at d placed) order ≤ r.ran.numbers
  pub none_stopped : r.stops.items ≡ []
  pub stops : length order ≤ r.stops.room

-- ---- All of it

-- the workspace is that of this controller, but for when it is updated
pub record IsWorkspaceFor (m : Member) (s : WorkspaceFacts) : Type 0 where
  pub serial : s.serial ≡ m.serial
  pub place : s.place ≡ m.place

-- these are the workspaces of these controllers, one for each
abbrev pub AreWorkspacesFor : List Member → List WorkspaceFacts → Type 0
AreWorkspacesFor [] [] = Unit {0}
AreWorkspacesFor (m ∷ ms) (s ∷ ss) = IsWorkspaceFor m s × AreWorkspacesFor ms ss
AreWorkspacesFor _ _ = ⊥

-- and each is fitted
pub record AreWorkspaces (placed : Placed) (order : List Member) (workspaces : List WorkspaceFacts) : Type 0 where
  pub stands : AreWorkspacesFor order workspaces
  pub fitted : AllByRecursion (IsFitted placed) workspaces

-- who stands there
abbrev pub stands_for : WorkspaceFacts → Member
stands_for s = record { serial = s.serial; place = s.place }

-- These were left over: workspaces that are fitted, and who stands there.
pub record AreKept (placed : Placed) (workspaces : List WorkspaceFacts) (members : List Member) : Type 0 where
  pub fitted : AllByRecursion (IsFitted placed) workspaces
  pub ordered : members ≡ map stands_for workspaces

-- These run: the workspaces of these controllers, and the same controllers once more, for the flight.
pub record IsRun (placed : Placed) (run : List Member) (ss : List WorkspaceFacts) (ms : List Member) : Type 0 where
  pub workspaces : AreWorkspaces placed run ss
  pub order : ms ≡ run

-- hardware of this description has so much to tell in a cycle
pub record IsSizeOf (d : Description) (s : HardwareSize) : Type 0 where
  pub failures : s.failures ≡ failing d.components
  pub joints : s.joints ≡ joints d.components

-- in this record there is room for all that hardware of this size can tell
pub record HasRoomOf (s : HardwareSize) (r : RecordRoom) : Type 0 where
  pub failures : s.failures ≤ r.failed.room
  pub joints : s.joints ≤ r.bodies.room

-- A cycle can be prepared in which these controllers are active: the places and the size are those of the description,
-- and each is described.
pub record CanPrepare (d : Description) (placed : Placed) (s : HardwareSize) (order : List Member) : Type 0 where
  pub places : placed ≡ placed_of d
  pub size : IsSizeOf d s
  pub within : All (λ m. m.place < length d.controllers) order

-- There are the workspaces of these controllers; the same controllers once more, for the flight; room for the serials
-- of those that fail, and for the mail of so many that are loaded; and a record with room.
pub record AreNeeds (d : Description) (placed : Placed) (members : List Member) (loaded : ℕ) (s : CycleNeeds) : Type 0
  where
    pub workspaces : AreWorkspaces placed members s.workspaces.items
    pub order : s.order.items ≡ members
    pub none_erred : s.erred.items ≡ []
    pub erred : length members ≤ vec_capacity s.erred
    pub no_mail : s.mails.items ≡ []
    pub mails : loaded ≤ vec_capacity s.mails
    pub told : HasRoom d placed members s.room

-- This works in a cycle in which these controllers are active: it is known who they are; there is room for the serials
-- of those that fail; and to tell of all that can happen.
pub record IsFittedOut (d : Description) (placed : Placed) (members : List Member) (k : CycleContext) : Type 0 where
  pub order : k.order.items ≡ members
  pub none_erred : k.erred.items ≡ []
  pub erred : length members ≤ vec_capacity k.erred
  pub told : IsSomeAnd k.room (HasRoom d placed members)

-- So it can from what cycles left over and what works in a cycle: it is known who stands at the workspaces, which are
-- fitted, no update failed, and in the room for a record nothing is told.
pub record CanPrepareFrom (d : Description) (s : HardwareSize) (order : List Member) (buffers : CycleBuffers)
    (k : CycleContext) : Type 0
  where
    pub robot : CanPrepare d k.robot.places s order
    pub kept : AreKept k.robot.places buffers.workspaces.items k.order.items
    pub none_erred : k.erred.items ≡ []
    pub told : IfSome k.room TellsNothing

-- All of it is ready, in what cycles left over and in what works in a cycle.
pub record HaveNeeds (d : Description) (placed : Placed) (members : List Member) (loaded : ℕ) (buffers : CycleBuffers)
    (k : CycleContext) : Type 0 where
  pub workspaces : AreWorkspaces placed members buffers.workspaces.items
  pub no_mail : buffers.mails.items ≡ []
  pub mails : loaded ≤ vec_capacity buffers.mails
  pub context : IsFittedOut d placed members k

-- Of what works in a cycle this alone changed, of which it is known still whose update failed, and in the room for a
-- record nothing is told.
pub record IsRefitted (before after : CycleContext) : Type 0 where
  pub context : after ≡ record before {
    order = after.order;
    erred = after.erred;
    room = after.room;
    left_over = after.left_over;
    standing = after.standing;
  }
  pub erred : after.erred.items ≡ before.erred.items
  pub told : IfSome after.room TellsNothing
