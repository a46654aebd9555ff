-- A flight that is under way: of which state it is, and what it keeps until it is computed.
use Rattle.std.specs.Prelude.{◌≡◌, ℕ, ◌+◌, ◌<◌, ◌≤◌, ◌==◌, Bool, true, false, List, [], ◌++◌, length, map, take, drop}
use Rattle.std.specs.Prelude.{vec_len, vec_capacity, None, Some, is_some, IfSome, IsSomeAnd}
use Rattle.std.specs.List.{AllByRecursion, IsDistinct}
use Rattle.joint_body.specs.declared.TheConstants.{LONGEST_STEP}
use Rattle.cm_document.specs.Valid.{IsValid}
use Rattle.cm_model.specs.Cycle.{period}
use Rattle.cm_model.specs.Order.{depth}
use Rattle.cm_model.specs.Sound.{configuration}
use Rattle.cm_model.specs.State.{State, active}
use Rattle.cm_model.specs.Steady.{IsSteady}
use Rattle.cm_storage.specs.declared.record_room.RecordRoom.{RecordRoom}
use Rattle.cm_hardware.specs.Holding.{IsInCycle, values_read, reads_failed_in}
use Rattle.cm_hardware.specs.Wiring.{writes_to_fail, all_joints}
use Rattle.cm_places.specs.Placed.{placed_of}
use Rattle.cm_slots.specs.Updates.{IsTimely}
use Rattle.switch_plan.specs.Relations.{relations_of}
use Rattle.rt_flight.specs.Cells.{CellFacts, cell_read, CanFly, CanTell}
use Rattle.rt_flight.specs.Calls.Cells.{CanTurn, HaveTurned}
use Rattle.rt_flight.specs.Depths.{depths_of, IsLayered}
use Rattle.rt_flight.specs.Progress.{Progress, failed_in_room, round_in, flying_in}
use Rattle.rt_flight.specs.Flights.{FlightFacts, AreCellsOf, CanSettle, IsEquipped, IsReady, TellsNothing}
use Rattle.rt_flight.specs.declared.context.CycleContext.{CycleContext}

-- ---- Of a state

-- The cycle of this number, which is aloft in the state, began with these cells, which are those of the active
-- controllers with their depths among them; and in this context its components were read.
pub record HasBegunOf (s : State) (count : ℕ) (begun : List CellFacts) (k : CycleContext) : Type 0 where
  pub valid : IsValid s.description
  pub steady : IsSteady s
  pub once : IsDistinct (λ m n. m == n) (map (λ l. l.serial) s.loaded)
  pub number : count ≡ s.ended
  pub placed : k.robot.places ≡ placed_of s.description
  pub related : k.robot.relations ≡ relations_of s.description
  pub timed : k.robot.period_us ≡ period s.description
  pub hardware : IsInCycle s (values_read s) k.robot.hardware
  pub failed : failed_in_room k.room ≡ reads_failed_in s
  pub cells : AreCellsOf s.mails (configuration s).running begun
  pub depths : AllByRecursion (λ c. c.depth ≡ depth s.description.controllers (active s) c.workspace.place) begun

-- The flight is under way in the cycle which is aloft in the state.
pub record IsUnderWay (s : State) (f : FlightFacts) : Type 0 where
  pub begun : IsSomeAnd f.progress (λ p. HasBegunOf s f.number p.begun p.read)
  pub not_yet : f.outcome ≡ None

-- ---- What it keeps

-- There is room for all that can happen after the reads, and nothing but the reads is told in it.
pub record HasRoomFor (number : ℕ) (begun : List CellFacts) (k : CycleContext) (r : RecordRoom) : Type 0 where
  pub told : CanTell begun r.ran
  pub failures : writes_to_fail number k.robot.hardware.components ≤ r.failed.room
  pub joints : all_joints k.robot.hardware.components ≤ r.bodies.room
  pub settles : CanSettle k.robot.relations k.order.items r
  pub none_ran : r.ran.rans ≡ []
  pub no_body : r.bodies.items ≡ []
  pub none_stopped : r.stops.items ≡ []

-- With these cells, and this context after the reads, the turns of a flight began.
pub record HasBegun (number : ℕ) (begun : List CellFacts) (k : CycleContext) : Type 0 where
  pub aloft : (s : State) × HasBegunOf s number begun k
  pub equipped : IsEquipped begun k.order.items k.robot k.ending k.lists (vec_capacity k.erred)
  pub layered : IsLayered k.robot.relations begun
  pub none_erred : k.erred.items ≡ []
  pub not_yet : k.record ≡ None
  pub timely : IsTimely (round_in number k)
  pub short : k.robot.period_us ≤ LONGEST_STEP
  pub each : AllByRecursion
      (CanFly k.robot.places k.robot.relations k.robot.period_us (length k.robot.hardware.loans)) begun
  pub room : IsSomeAnd k.room (HasRoomFor number begun k)

-- the room is the same but for who ran
abbrev pub TellsBut : RecordRoom → RecordRoom → Type 0
TellsBut before after = after ≡ record before { ran = after.ran }

-- Over this context the turns began. By now some cells had theirs, and the context is what they made of it; the others
-- can have theirs.
pub record HasTurned (number : ℕ) (read : CycleContext) (first later cells : List CellFacts) (k : CycleContext) : Type 0
  where
    pub context : k ≡ record read {
      robot = record read.robot { hardware = k.robot.hardware };
      erred = k.erred;
      room = k.room;
    }
    pub room : IsSomeAnd read.room (λ before. IsSomeAnd k.room (TellsBut before))
    pub turned : HaveTurned (round_in number read) first cells (flying_in read) (flying_in k)
    pub can : IsSomeAnd k.room
        (λ r. CanTurn (round_in number read) (length k.robot.hardware.loans) later r.ran (vec_len k.erred)
        (vec_capacity k.erred))
    pub capacity : vec_capacity k.erred ≡ vec_capacity read.erred

-- A flight that is under way: its first depths had their turns; of the next, if it was gathered, the cells have read
-- and may be lent; and those after it are as they began.
pub record IsTurning (number : ℕ) (cells : List CellFacts) (k : CycleContext) (p : Progress) : Type 0 where
  pub begun : HasBegun number p.begun p.read
  pub depths : p.depths ≡ depths_of p.begun
  pub turned : HasTurned number p.read (take p.turned p.begun) (drop p.turned p.begun) (take p.turned p.left) k
  pub later : drop p.turned p.left
      ≡ map (cell_read (round_in number p.read) k.robot.hardware.loans) (take p.waiting (drop p.turned p.begun))
      ++ drop p.waiting (drop p.turned p.begun)
  pub one_depth : AllByRecursion (λ c. c.depth ≡ p.scattered) (take p.waiting (drop p.turned p.begun))
  pub after : AllByRecursion (λ c. p.scattered ≤ c.depth) (drop p.turned p.begun)
  pub deeper : p.gathered ≡ true
      → AllByRecursion (λ c. p.scattered < c.depth) (drop p.waiting (drop p.turned p.begun))
  pub below : p.gathered ≡ true → p.scattered < p.depths
  pub settled : p.gathered ≡ false → (p.waiting ≡ 0) × (cells ≡ p.left)
  pub within : p.turned + p.waiting ≤ length p.begun
  pub as_many : length p.left ≡ length p.begun
  pub many : length cells ≡ length p.left

-- A flight that was not started: all of its cycle can be done, and no update failed yet.
pub record IsFresh (number : ℕ) (cells : List CellFacts) (k : CycleContext) : Type 0 where
  pub equipped : IsEquipped cells k.order.items k.robot k.ending k.lists (vec_capacity k.erred)
  pub none_erred : k.erred.items ≡ []
  pub not_yet : k.record ≡ None
  pub ready : IsSomeAnd k.room (IsReady number cells k.order.items k.robot)

-- A flight that is computed: it is fitted for the next cycle, and room that is left tells nothing.
pub record IsDone (cells : List CellFacts) (k : CycleContext) : Type 0 where
  pub equipped : IsEquipped cells k.order.items k.robot k.ending k.lists (vec_capacity k.erred)
  pub left : IfSome k.room TellsNothing

-- What a flight keeps with this context, when it was started or not, and is so far.
pub record IsFlight (number : ℕ) (cells : List CellFacts) (k : CycleContext) (started : Bool) (p : Progress) : Type 0
  where
    pub fresh : started ≡ false → IsFresh number cells k
    pub turning : started ≡ true → k.record ≡ None → IsTurning number cells k p
    pub done : is_some k.record ≡ true → IsDone cells k

-- ---- Lent

-- the flight once these stand in place of the cells that wait
abbrev pub with_lent : FlightFacts → List CellFacts → FlightFacts
with_lent f lent = record f {
  cells = elim f.progress [
    | None ↦ f.cells
    | Some p ↦ take (length f.cells) (take p.turned f.cells ++ (lent ++ drop (length lent) (drop p.turned f.cells)))
  ];
}
