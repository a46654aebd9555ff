-- How a cycle begins: how the requests that wait are decided, and how it takes off.
use Rattle.std.specs.Prelude.{◌≡◌, ℕ, ◌<◌, ◌≤◌, ◌==◌, Bool, true, false, List, [], ◌∷◌, length, drop, Option, None}
use Rattle.std.specs.Prelude.{vec_capacity}
use Rattle.std.specs.List.{All}
use Rattle.cm_document.specs.Valid.{IsValid}
use Rattle.cm_model.specs.Boundary.{waiting, after_fallbacks, begin_effect, begin_reply}
use Rattle.cm_model.specs.Cycle.{begun, members_in_order}
use Rattle.cm_model.specs.Machine.{can_begin}
use Rattle.cm_model.specs.Serials.{IsNumbered}
use Rattle.cm_model.specs.State.{State}
use Rattle.cm_model.specs.Steady.{IsSteady}
use Rattle.cm_model.specs.declared.cause.Decision.{Decision}
use Rattle.cm_model.specs.declared.reply.Reply.TheVariants as reply
use Rattle.cm_model.specs.declared.data.CtlData.{CtlData}
use Rattle.cm_model.specs.declared.cause.Outcome.{Outcome}
use Rattle.cm_model.specs.declared.request.Request.{Request}
use Rattle.request_plan.specs.Acts.{IsActOf, IsConclusionOf}
use Rattle.request_plan.specs.Plans.{AreConclusionsOf, IsStandingIn}
use Rattle.request_plan.specs.declared.acts.Act.{Act}
use Rattle.request_plan.specs.declared.acts.Conclusion.{Conclusion}
use Rattle.cm_hardware.specs.Holding.{IsHardwareOf}
use Rattle.cm_hardware.specs.Shown.{Shows}
use Rattle.cm_slots.specs.Fit.{AreFit}
use Rattle.cm_slots.specs.Slots.{Slotted}
use Rattle.rt_flight.specs.Cells.{CellFacts}
use Rattle.rt_flight.specs.Flights.{FlightFacts, IsAloft}
use Rattle.stop_plan.specs.Ending.{HasFlags}
use Rattle.cm_resources.specs.CycleResources.{HasLines, IsAtHome, IsPrepared}
use Rattle.cm_resources.specs.ActiveSet.{AreAt, serials_of}
use Rattle.cm_resources.specs.Described.{IsAsDescribed, IsDivided}
use Rattle.cm_desk.specs.Works.{IsWorkedOut}
use Rattle.cm_resources.specs.declared.resources.CycleResources.{CycleResources}

-- none of these requests waits for an outcome
abbrev pub none_waits : List Request → List Outcome → Bool
none_waits requests outcomes = length (drop (length outcomes) requests) == 0

-- This request waits first, before others, and this is concluded of it.
pub record IsNext (s : State) (asked : Request) (later : List Request) (c : Conclusion) : Type 0 where
  pub first : waiting s ≡ asked ∷ later
  pub concluded : IsConclusionOf s asked c

-- Of what was planned for a begin this is left to be done in a state in which nobody is to stand in any more: first
-- what was concluded of those that were, and then of each request.
pub record IsLeftOf (s now : State) (concluded_first : Option Conclusion) (later : List Conclusion) : Type 0 where
  pub emptied : now ≡ record s { fallbacks = [] }
  pub steady : IsSteady s
  pub first : IsStandingIn s s.fallbacks concluded_first
  pub conclusions : AreConclusionsOf (after_fallbacks s) (waiting (after_fallbacks s)) later

-- This can be done, and leads to a steady state.
pub record CanAct (s after : State) (done : Act) : Type 0 where
  pub act : IsActOf s after done
  pub steady : IsSteady after

-- ---- The whole begin

-- The next cycle can begin in this state, which is steady and whose serials differ.
pub record CanBegin (s : State) : Type 0 where
  pub can : can_begin s s.ended ≡ true
  pub steady : IsSteady s
  pub numbered : IsNumbered s

-- It began, and this was decided; the flight is that of the cycle which is aloft then.
pub record HasBegun (before after : State) (flight : FlightFacts) (decisions : List Decision) : Type 0 where
  pub begun : after ≡ begin_effect before
  pub told : reply.Decisions decisions ≡ begin_reply before
  pub aloft : IsAloft after flight

-- ---- The take-off

-- With these a cycle of the state can take off, when all is decided: its controllers, none of which is away; the
-- indices of those that run, in the order of updates; what a cycle works on, which is at home and has all ready that
-- the cycle needs; and room for a box of each and an empty list for their cells. The state that comes of it is valid,
-- steady and numbered, and all that is kept of controllers holds in it.
pub record CanTakeOff (s : State) (slots : Slotted) (indices : List ℕ) (b : CycleResources) (boxes : List CtlData)
    (box_room : ℕ)
    (cells : List CellFacts) (cell_room count : ℕ)
    : Type 0 where
  pub valid : IsValid s.description
  pub steady : IsSteady (begun s)
  pub numbered : IsNumbered (begun s)
  pub fit : AreFit s
  pub fit_then : AreFit (begun s)
  pub described : All (IsAsDescribed s.description) (begun s).loaded
  pub divided : All IsDivided (begun s).loaded
  pub within : s.ended < s.description.cycles
  pub number : count ≡ s.ended
  pub down : slots.aloft ≡ false
  pub loaded : slots.loaded ≡ s.loaded
  pub run : AreAt (serials_of (begun s).loaded) (members_in_order (begun s)) indices
  pub hardware : IsHardwareOf (begun s) b.robot.value.hardware
  pub worked_out : (names : List (List ℕ)) × IsWorkedOut s.description names b.robot.value
  pub home : IsAtHome b
  pub flags : HasFlags (length s.description.controllers) b.ending.value
  pub lines : HasLines s.description b.lists
  pub told : b.told ≡ true → Shows b.robot.value.hardware b.lists
  pub next_lines : HasLines s.description b.next_lists.value
  pub prepared : IsPrepared s.description (members_in_order (begun s)) (length s.loaded) b
  pub no_box : boxes ≡ []
  pub box_places : length (members_in_order (begun s)) ≤ box_room
  pub no_cell : cells ≡ []
  pub places : length (members_in_order (begun s)) ≤ cell_room

-- It took off: the flight is that of the cycle that is aloft. The robot and the sets of the end are away, as they were;
-- the lists are written down; and there is room for the workspaces.
pub record HasTakenOff (s : State) (before after : Slotted) (b b' : CycleResources) (f : FlightFacts) : Type 0 where
  pub slots : after ≡ record before { loaded = (begun s).loaded; aloft = true }
  pub resources : b' ≡ record b {
    idle_context = None;
    mails = b'.mails;
    buffers = b'.buffers;
    lists = b'.lists;
    told = b'.told;
  }
  pub mails : b'.mails.value.items ≡ (begun s).mails
  pub none_stands : b'.buffers.workspaces.items ≡ []
  pub stands : length (members_in_order (begun s)) ≤ vec_capacity b'.buffers.workspaces
  pub lines : HasLines s.description b'.lists
  pub shown : Shows b.robot.value.hardware b'.lists
  pub flight : IsAloft (begun s) f
