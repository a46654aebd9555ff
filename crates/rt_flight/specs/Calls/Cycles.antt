-- What the parts of a cycle ask, and what they leave.
use Rattle.std.specs.Prelude.{◌≡◌, ℕ, ◌++◌, List, [], length, map}
use Rattle.std.specs.List.{AllByRecursion}
use Rattle.cm_document.specs.Valid.{IsValid}
use Rattle.cm_model.specs.Cycle.{failed_in, members_in_order}
use Rattle.cm_model.specs.Cycle.{stops as stopped_in}
use Rattle.cm_model.specs.State.{State}
use Rattle.cm_model.specs.Steady.{IsSteady}
use Rattle.cm_model.specs.declared.member.Member.{Member}
use Rattle.cm_storage.specs.declared.record.FailedPart.{FailedPart}
use Rattle.cm_storage.specs.declared.record_room.RecordRoom.{RecordRoom}
use Rattle.stop_plan.specs.Ending.{IsEndingOf, HasFlags, told_in, erred_in}
use Rattle.stop_plan.specs.declared.ending.Ending.{Ending}
use Rattle.switch_plan.specs.Relations.{Related, relations_of}
use Rattle.rt_flight.specs.Workspaces.{IsFitted}
use Rattle.rt_flight.specs.Cells.{CellFacts}
use Rattle.rt_flight.specs.Flights.{member_in}
use Rattle.rt_flight.specs.declared.robot.Robot.{Robot}

-- A cycle that was made leaves who runs, workspaces that are fitted, the robot but for its hardware, who stopped, and
-- the room for serials; and what is told of updates, if nobody runs.
pub record LeavesFlight (cells cells' : List CellFacts) (g g' : Robot) (room room' : RecordRoom) (most most' : ℕ)
    : Type 0
  where
    pub order : map member_in cells' ≡ map member_in cells
    pub fitted : AllByRecursion (λ c. IsFitted g.places c.workspace) cells'
    pub robot : g' ≡ record g { hardware = g'.hardware }
    pub stops : room'.stops ≡ room.stops
    pub idle : cells ≡ [] → room'.ran.rans ≡ room.ran.rans
    pub capacity : most' ≡ most

-- These are told of the cycle of the state: its relations, its active controllers in order, the components that failed,
-- and the serials of the controllers whose update failed.
pub record IsToldOf (s : State) (w : Related) (members : List Member) (parts : List FailedPart) (serials : List ℕ) :
    Type 0 where
  pub valid : IsValid s.description
  pub steady : IsSteady s
  pub related : w ≡ relations_of s.description
  pub order : members ≡ members_in_order s
  pub failed : parts ≡ failed_in s
  pub erred : serials ≡ erred_in (told_in s)

-- It is decided who stops, of what is told in the record before, and told there.
pub record Decides (w : Related) (members : List Member) (serials : List ℕ) (before after : RecordRoom) (sets : Ending)
    : Type 0 where
  pub ending : (s : State) → IsToldOf s w members before.failed.items serials → IsEndingOf s sets
  pub stops : (s : State) → IsToldOf s w members before.failed.items serials
      → after.stops.items ≡ before.stops.items ++ stopped_in s (told_in s)
  pub told : after ≡ record before { stops = after.stops }
  pub flags : HasFlags (length w.leaders) sets

-- Nothing failed, and nothing is changed.
pub record IsQuiet (serials : List ℕ) (before after : RecordRoom) (was is : Ending) : Type 0 where
  pub failed : before.failed.items ≡ []
  pub erred : serials ≡ []
  pub same : after ≡ before
  pub ending : is ≡ was
