-- A flight: one cycle that has left the desk. What it is of a state, and what it makes of it.
use Rattle.std.specs.Prelude.{◌≡◌, ℕ, ◌<◌, ◌≤◌, ◌==◌, Bool, true, false, List, [], ◌∷◌, length, map}
use Rattle.std.specs.Prelude.{vec_capacity, Option, None, Some, IfSome}
use Rattle.std.specs.List.{All, AllByRecursion, IsDistinct}
use Rattle.joint_body.specs.declared.TheConstants.{LONGEST_STEP}
use Rattle.cm_document.specs.Valid.{IsValid}
use Rattle.cm_model.specs.Cycle.{period, failed_in, cycle, landed}
use Rattle.cm_storage.specs.Happened.{Happened}
use Rattle.cm_model.specs.Sound.{Running, configuration}
use Rattle.cm_model.specs.State.{State, Loaded, MailAloft}
use Rattle.cm_model.specs.Steady.{IsSteady}
use Rattle.cm_model.specs.declared.member.Member.{Member}
use Rattle.cm_storage.specs.declared.record_room.RecordRoom.{RecordRoom}
use Rattle.cm_hardware.specs.Holding.{IsHardwareOf, IsMoved}
use Rattle.cm_hardware.specs.Shown.{HasLinesFor, Shows}
use Rattle.cm_hardware.specs.Wiring.{most_failures, all_joints}
use Rattle.cm_hardware.specs.declared.lists.Lists.{Lists}
use Rattle.cm_places.specs.Placed.{placed_of}
use Rattle.cm_slots.specs.Mails.{mail_in}
use Rattle.cm_slots.specs.Slots.{data_under}
use Rattle.cm_slots.specs.Updates.{Aloft, IsTimely}
use Rattle.sound_laws.specs.Core.{core}
use Rattle.stop_plan.specs.Ending.{IsEndingOf, HasFlags, told_in, erred_in}
use Rattle.stop_plan.specs.declared.ending.Ending.{Ending}
use Rattle.switch_plan.specs.Relations.{Related, relations_of}
use Rattle.rt_flight.specs.Workspaces.{WorkspaceFacts, IsFitted}
use Rattle.rt_flight.specs.Cells.{CellFacts, CanFly, CanTell}
use Rattle.rt_flight.specs.Progress.{Progress}
use Rattle.rt_flight.specs.declared.context.CycleContext.{CycleContext}
use Rattle.rt_flight.specs.declared.robot.Robot.{Robot}

-- What is seen of a flight: the number of its cycle; its cells in the order of updates; the hardware, with what is
-- worked out of the description; the sets of the end, and whether something failed; the serials of the controllers
-- whose update failed; the lists of the hardware, which are written down as it is computed; how far it is, once it was
-- started; and the record of the cycle, once it is computed.
pub record FlightFacts : Type 0 where
  pub number : ℕ
  pub cells : List CellFacts
  pub robot : Robot
  pub ending : Ending
  pub lists : Lists
  pub has_failed : Bool
  pub erred : List ℕ
  pub progress : Option Progress
  pub outcome : Option Happened

-- ---- Of a state

-- The workspace is that of this running controller.
pub record IsWorkspaceOf (r : Running) (s : WorkspaceFacts) : Type 0 where
  pub serial : s.serial ≡ r.serial
  pub place : s.place ≡ r.place
  pub divisor : Some s.divisor ≡ r.divisor

-- So is the cell, with its data and the mail that is aloft for it.
pub record IsCellOf (mails : List MailAloft) (r : Running) (c : CellFacts) : Type 0 where
  pub workspace : IsWorkspaceOf r c.workspace
  pub ctl : c.ctl ≡ r.ctl
  pub mail : c.mail ≡ mail_in mails r.serial

-- these cells are those of these running controllers, one for each
abbrev pub AreCellsOf : List MailAloft → List Running → List CellFacts → Type 0
AreCellsOf mails [] [] = Unit {0}
AreCellsOf mails (r ∷ rs) (c ∷ cs) = IsCellOf mails r c × AreCellsOf mails rs cs
AreCellsOf mails _ _ = ⊥

-- Over this robot the cycle of this number is aloft in the state, which is one of a valid description, steady and with
-- serials that differ: the cells are those of its active controllers, in the order of updates, and the hardware is that
-- of the state.
pub record IsAloftOver (s : State) (count : ℕ) (cell_facts : List CellFacts) (g : Robot) : Type 0 where
  pub valid : IsValid s.description
  pub steady : IsSteady s
  pub once : IsDistinct (λ m n. m == n) (map (λ l. l.serial) s.loaded)
  pub number : count ≡ s.ended
  pub placed : g.places ≡ placed_of s.description
  pub related : g.relations ≡ relations_of s.description
  pub timed : g.period_us ≡ period s.description
  pub hardware : IsHardwareOf s g.hardware
  pub cells : AreCellsOf s.mails (configuration s).running cell_facts

-- it was not started, and so is not computed
abbrev pub MayBeComputed : FlightFacts → Type 0
MayBeComputed f = (f.progress ≡ None) × (f.outcome ≡ None)

-- The flight is that of the cycle which is aloft in the state, not yet started.
pub record IsAloft (s : State) (f : FlightFacts) : Type 0 where
  pub over : IsAloftOver s f.number f.cells f.robot
  pub not_yet : MayBeComputed f

-- Another state of the same cycle: steady, with serials that differ, and with the same core. A call of a console
-- between a begin and its end leads to such a one.
pub record IsAlike (s begun : State) : Type 0 where
  pub steady : IsSteady s
  pub once : IsDistinct (λ m n. m == n) (map (λ l. l.serial) s.loaded)
  pub same : core s ≡ core begun

-- whatever consoles call, the flight stays that of the cycle that is aloft
abbrev pub StaysAloft : State → FlightFacts → Type 0
StaysAloft begun f = (s : State) → IsAlike s begun → IsAloft s f

-- After a cycle the cell is that of this running controller, with the data that it has among these, and no mail any
-- more.
pub record IsCellAfter (loaded : List Loaded) (r : Running) (c : CellFacts) : Type 0 where
  pub workspace : IsWorkspaceOf r c.workspace
  pub ctl : Some c.ctl ≡ data_under r.serial loaded
  pub no_mail : c.mail ≡ None

-- these cells are so those of these running controllers, one for each
abbrev pub AreCellsAfter : List Loaded → List Running → List CellFacts → Type 0
AreCellsAfter loaded [] [] = Unit {0}
AreCellsAfter loaded (r ∷ rs) (c ∷ cs) = IsCellAfter loaded r c × AreCellsAfter loaded rs cs
AreCellsAfter loaded _ _ = ⊥

-- The flight is computed: its record is that of the cycle of the state; the cells are those of the active controllers,
-- in the order of updates, with the data after the cycle; and the hardware is that of the state when the cycle has
-- landed, before it is settled who stops: the lists show it. It tells whose update failed, and the sets say who stops,
-- where something failed.
pub record IsComputed (s : State) (f : FlightFacts) : Type 0 where
  pub number : f.number ≡ s.ended
  pub outcome : f.outcome ≡ Some (cycle s).happened
  pub cells : AreCellsAfter (cycle s).loaded (configuration s).running f.cells
  pub fitted : AllByRecursion (λ c. IsFitted f.robot.places c.workspace) f.cells
  pub hardware : IsMoved (landed s (cycle s)) f.robot.hardware
  pub shown : Shows f.robot.hardware f.lists
  pub placed : f.robot.places ≡ placed_of s.description
  pub related : f.robot.relations ≡ relations_of s.description
  pub timed : f.robot.period_us ≡ period s.description
  pub quiet : f.has_failed ≡ false → (failed_in s ≡ []) × (erred_in (told_in s) ≡ [])
  pub erred : f.erred ≡ erred_in (told_in s)
  pub ending : f.has_failed ≡ true → IsEndingOf s f.ending

-- and once it is computed, it stays so
abbrev pub StaysComputed : State → FlightFacts → Type 0
StaysComputed begun f = (s : State) → IsAlike s begun → IsComputed s f

-- ---- What it keeps

-- a controller in its cell, by its serial and place
abbrev pub member_in : CellFacts → Member
member_in c = record { serial = c.workspace.serial; place = c.workspace.place }

-- Computed or not, it is known who runs; each workspace is fitted; the sets of the end have a flag for each described
-- controller; there is room for the lists of its hardware; and for the serial of each controller that runs.
pub record IsEquipped (cells : List CellFacts) (members : List Member) (g : Robot) (ending : Ending) (lists : Lists)
    (capacity : ℕ) : Type 0 where
  pub order : members ≡ map member_in cells
  pub fitted : AllByRecursion (λ c. IsFitted g.places c.workspace) cells
  pub flags : HasFlags (length g.relations.leaders) ending
  pub lines : HasLinesFor g.hardware lists
  pub erred : length cells ≤ capacity

-- what is the same for all its updates, before a read failed
abbrev pub round_over : ℕ → Robot → Aloft
round_over number g = record {
  number = number;
  period_us = g.period_us;
  placed = g.places;
  related = g.relations;
  failed = [];
}

-- Over this robot the cycle of a state can be made of these cells: each can be updated, and there is room to tell of
-- all that can happen.
pub record CanMake (number : ℕ) (cells : List CellFacts) (g : Robot) (r : RecordRoom) : Type 0 where
  pub aloft : (s : State) × IsAloftOver s number cells g
  pub timely : IsTimely (round_over number g)
  pub short : g.period_us ≤ LONGEST_STEP
  pub each : AllByRecursion (CanFly g.places g.relations g.period_us (length g.hardware.loans)) cells
  pub told : CanTell cells r.ran
  pub failures : most_failures g.hardware.components ≤ r.failed.room
  pub joints : all_joints g.hardware.components ≤ r.bodies.room

-- It can be settled who stops of these controllers.
pub record CanSettle (related : Related) (order : List Member) (r : RecordRoom) : Type 0 where
  pub followers : length related.followers ≡ length related.leaders
  pub components : length related.components ≡ length related.leaders
  pub within : All (λ m. m.place < length related.leaders) order
  pub stops : length order ≤ r.stops.room

-- nothing is told in it yet
pub record TellsNothing (r : RecordRoom) : Type 0 where
  pub no_failure : r.failed.items ≡ []
  pub none_ran : r.ran.rans ≡ []
  pub no_body : r.bodies.items ≡ []
  pub none_stopped : r.stops.items ≡ []

-- nor is anything told in it but who ran
pub record IsBlank (r : RecordRoom) : Type 0 where
  pub no_failure : r.failed.items ≡ []
  pub no_body : r.bodies.items ≡ []
  pub none_stopped : r.stops.items ≡ []

-- Until it is computed, all of it can be done, with this record to tell in.
pub record IsReady (number : ℕ) (cells : List CellFacts) (members : List Member) (g : Robot) (r : RecordRoom) : Type 0
  where
    pub makes : CanMake number cells g r
    pub settles : CanSettle g.relations members r
    pub empty : TellsNothing r

-- what is seen of a flight with these cells and this context, which is so far
abbrev pub facts_with : ℕ → List CellFacts → CycleContext → Option Progress → FlightFacts
facts_with number cells k progress = record {
  number = number;
  cells = cells;
  robot = k.robot;
  ending = k.ending;
  lists = k.lists;
  has_failed = k.has_failed;
  erred = k.erred.items;
  progress = progress;
  outcome = k.record;
}

-- What a flight brings home: all that it took along as it is then, the record of its cycle, whether something failed,
-- and whose update did; and room that is left tells nothing.
pub record ComesHome (f : FlightFacts) (cell_facts : List CellFacts) (k : CycleContext) (happened : Happened) : Type 0
  where
    pub cells : cell_facts ≡ f.cells
    pub robot : k.robot ≡ f.robot
    pub ending : k.ending ≡ f.ending
    pub lists : k.lists ≡ f.lists
    pub has_failed : k.has_failed ≡ f.has_failed
    pub erred : k.erred.items ≡ f.erred
    pub told : Some happened ≡ f.outcome
    pub equipped : IsEquipped cell_facts k.order.items k.robot k.ending k.lists (vec_capacity k.erred)
    pub left : IfSome k.room TellsNothing

-- ---- In parts

-- The cycle of the state was made, and is told of but for the stops.
pub record HasMade (s : State) (cell_facts : List CellFacts) (g : Robot) (serials : List ℕ) (r : RecordRoom) : Type 0
  where
    pub cells : AreCellsAfter (cycle s).loaded (configuration s).running cell_facts
    pub hardware : IsMoved (landed s (cycle s)) g.hardware
    pub failed : r.failed.items ≡ failed_in s
    pub ran : r.ran.rans ≡ told_in s
    pub bodies : r.bodies.items ≡ (cycle s).happened.bodies
    pub erred : serials ≡ erred_in (told_in s)
