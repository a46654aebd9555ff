-- What the parts of a cycle ask of the cells and the context of a flight, and what they leave.
use Rattle.std.specs.Prelude.{◌≡◌, ℕ, ◌≤◌, List, [], true, length, map, vec_len, vec_capacity, Option}
use Rattle.std.specs.Prelude.{is_some, IsSomeAnd}
use Rattle.cm_hardware.specs.Calls.Cycles.{Finishes}
use Rattle.cm_hardware.specs.Holding.{IsHardwareOf, ReadInCycle}
use Rattle.cm_hardware.specs.Wiring.{IsSameBuild, writes_to_fail}
use Rattle.cm_model.specs.State.{State}
use Rattle.cm_storage.specs.declared.record_room.RecordRoom.{RecordRoom}
use Rattle.rt_flight.specs.Calls.Cells.{LeavesPut}
use Rattle.rt_flight.specs.Cells.{CellFacts, cell_put, all_put, all_outs, all_numbers}
use Rattle.rt_flight.specs.Depths.{depths_of, AreDeepened}
use Rattle.rt_flight.specs.Flights.{facts_with, IsComputed}
use Rattle.rt_flight.specs.Progress.{Progress, flying_in}
use Rattle.rt_flight.specs.UnderWay.{HasBegun, HasBegunOf, HasTurned, IsDone, TellsBut}
use Rattle.rt_flight.specs.declared.context.CycleContext.{CycleContext}
use Rattle.rt_flight.specs.declared.robot.Robot.{Robot}

-- The turns began over these cells, which have so many depths.
pub record Begins (number : ℕ) (cells cells' : List CellFacts) (k k' : CycleContext) (depths : ℕ) : Type 0 where
  pub begun : HasBegun number cells' k'
  pub count : depths ≡ depths_of cells'
  pub deepened : AreDeepened cells cells'
  pub context : k' ≡ record k { robot = record k.robot { hardware = k'.robot.hardware }; room = k'.room }

-- The components were read, and it is told which reads failed.
pub record HasRead (number : ℕ) (g g' : Robot) (before after : RecordRoom) : Type 0 where
  pub read : (s : State) → IsHardwareOf s g.hardware → s.ended ≡ number
      → ReadInCycle s g'.hardware before.failed.items after.failed.items
  pub left : writes_to_fail number g'.hardware.components ≤ after.failed.room
  pub build : IsSameBuild g.hardware g'.hardware
  pub robot : g' ≡ record g { hardware = g'.hardware }
  pub told : after ≡ record before { failed = after.failed }

-- They were written, and it is told which writes failed, and where the bodies are.
pub record HasWritten (number : ℕ) (g g' : Robot) (before after : RecordRoom) : Type 0 where
  pub finished : Finishes number g.period_us g.hardware g'.hardware before.failed.items after.failed.items
      before.bodies.items after.bodies.items
  pub robot : g' ≡ record g { hardware = g'.hardware }
  pub told : after ≡ record before { failed = after.failed; bodies = after.bodies }

-- What these cells came to was put. Only the hardware changed, and who ran is told.
pub record PutsIn (cells cells' : List CellFacts) (g g' : Robot) (before after : RecordRoom) : Type 0 where
  pub put : cells' ≡ map cell_put cells
  pub robot : g' ≡ record g { hardware = g'.hardware }
  pub told : TellsBut before after

-- What these cells came to stands in their claims and is told; and so much room is left at least.
pub record Scatters (cells cells' : List CellFacts) (k k' : CycleContext) : Type 0 where
  pub put : cells' ≡ map cell_put cells
  pub flying : flying_in k' ≡ all_put k.robot.places cells (flying_in k)
  pub context : k' ≡ record k {
    robot = record k.robot { hardware = k'.robot.hardware };
    erred = k'.erred;
    room = k'.room;
  }
  pub room : IsSomeAnd k.room
      (λ before. IsSomeAnd k'.room
      (λ after. TellsBut before after × LeavesPut (length cells) (all_outs cells) (all_numbers cells)
      (length k.robot.hardware.loans) (length k'.robot.hardware.loans) before.ran after.ran (vec_len k.erred)
      (vec_len k'.erred) (vec_capacity k.erred) (vec_capacity k'.erred)))

-- All cells had their turns, which began with these cells and in this context.
pub record HaveAllTurned (number : ℕ) (begun cells : List CellFacts) (read k : CycleContext) : Type 0 where
  pub start : HasBegun number begun read
  pub turned : HasTurned number read begun [] cells k

-- the cycle can end
abbrev pub IsEnding : ℕ → List CellFacts → CycleContext → Type 0
IsEnding number cells k = (begun : List CellFacts) × ((read : CycleContext) × HaveAllTurned number begun cells read k)

-- The cycle ended: the flight is computed of each state of which its turns began.
pub record Ends (number : ℕ) (cells : List CellFacts) (k k' : CycleContext) : Type 0 where
  pub done : IsDone cells k'
  pub computed : is_some k'.record ≡ true
  pub cycle : (begun : List CellFacts) (read : CycleContext) → HaveAllTurned number begun cells read k
      → (progress : Option Progress) (s : State) → HasBegunOf s number begun read
      → IsComputed s (facts_with number cells k' progress)
