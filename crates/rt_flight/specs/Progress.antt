-- How far a flight is that was started and is not computed yet.
use Rattle.std.specs.Prelude.{ℕ, Bool, if◌then◌else◌, List, [], Option, None, Some}
use Rattle.cm_storage.specs.Ran.{Ran}
use Rattle.cm_storage.specs.declared.record.FailedPart.{FailedPart}
use Rattle.cm_storage.specs.declared.record_room.RecordRoom.{RecordRoom}
use Rattle.cm_slots.specs.Updates.{Aloft}
use Rattle.rt_flight.specs.Cells.{CellFacts, Flying, flying}
use Rattle.rt_flight.specs.declared.context.CycleContext.{CycleContext}

-- A flight that was started: how many depths its cells have, how many of these gave out, and whether the cells of the
-- next have read and wait to give out; how many cells had their turns, and how many wait; all cells as they began, with
-- their depths; what they work on, once the components were read; and all cells as the last call but `cells` left them.
pub record Progress : Type 0 where
  pub depths : ℕ
  pub scattered : ℕ
  pub gathered : Bool
  pub turned : ℕ
  pub waiting : ℕ
  pub begun : List CellFacts
  pub read : CycleContext
  pub left : List CellFacts

-- the failures and the updates that are told in this room
abbrev pub failed_in_room : Option RecordRoom → List FailedPart
failed_in_room room = elim room [ None ↦ [] | Some r ↦ r.failed.items ]

abbrev pub rans_in_room : Option RecordRoom → List Ran
rans_in_room room = elim room [ None ↦ [] | Some r ↦ r.ran.rans ]

-- what is the same for all updates of the cycle of this number
abbrev pub round_in : ℕ → CycleContext → Aloft
round_in number k = record {
  number = number;
  period_us = k.robot.period_us;
  placed = k.robot.places;
  related = k.robot.relations;
  failed = failed_in_room k.room;
}

-- what the updates work on together
abbrev pub flying_in : CycleContext → Flying
flying_in k = flying k.robot.hardware (rans_in_room k.room) k.erred.items

-- what is shown of it: nothing before the start
abbrev pub shown : Bool → Progress → Option Progress
shown started p = if started then Some p else None
