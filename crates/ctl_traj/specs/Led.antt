-- What a trajectory keeps, seen as the data of a controller.
use Rattle.std.specs.Prelude.{◌≡◌, ℕ, zero, suc, ◌-◌, ◌≤◌, ◌==◌, ℤ, Bool, true, false, if◌then◌else◌, List, [], ◌∷◌}
use Rattle.std.specs.Prelude.{length, take, Option, Some, None}
use Rattle.std.specs.List.{AllByRecursion, list_all}
use Rattle.cm_document.specs.declared.call.Point2.{Point2}
use Rattle.cm_document.specs.declared.description.CtlKind.TheVariants as kind
use Rattle.cm_document.specs.declared.description.Params.TheVariants as params
use Rattle.cm_model.specs.State.{fresh}
use Rattle.cm_model.specs.Ways.{led}
use Rattle.cm_model.specs.declared.data.CtlData.{CtlData}
use Rattle.cm_model.specs.declared.data.RunData.{RunData}
use Rattle.cm_model.specs.declared.data.RunData.TheVariants as run

-- What a configured trajectory keeps: the values to hold; while it runs, the values at the start, the points, whether
-- they are fresh, and the start.
pub record Way : Type 0 where
  pub hold : List ℤ
  pub from : List ℤ
  pub points : List Point2
  pub fresh : Bool
  pub start_us : ℕ
  pub runs : Bool

-- each point has so many values
abbrev pub all_have : ℕ → List Point2 → Bool
all_have count points = list_all (λ p. length p.values == count) points

-- there is a value for each claim everywhere
pub record IsWay (hold from : List ℤ) (points : List Point2) : Type 0 where
  pub begun : length from ≡ length hold
  pub fit : all_have (length hold) points ≡ true

-- so many points are there, and by this time the time of each has come
pub record HaveCome (t : ℕ) (points : List Point2) (count : ℕ) : Type 0 where
  pub within : count ≤ length points
  pub each : AllByRecursion (λ p. p.at_us ≤ t) (take count points)

-- when the way behind so many points begins, and where: at the last of them, or at the start
abbrev pub since_after : ℕ → ℕ → List Point2 → ℕ
since_after start zero points = start
since_after start (suc k) [] = start
since_after start (suc k) (p ∷ points) = since_after p.at_us k points

abbrev pub begin_after : List ℤ → ℕ → List Point2 → List ℤ
begin_after from zero points = from
begin_after from (suc k) [] = from
begin_after from (suc k) (p ∷ points) = begin_after p.values k points

-- its running part, while it runs
abbrev pub running_of : Way → Option RunData
running_of way = if way.runs then Some (run.Trajectory way.hold way.fresh way.start_us way.from way.points) else None

-- its data
abbrev pub trajectory_data : Option Way → CtlData
trajectory_data None = fresh kind.Trajectory
trajectory_data (Some way) = record {
  kind = kind.Trajectory;
  params = Some (params.Trajectory (length way.hold));
  run = running_of way;
}

-- as it begins to run: it holds the states
abbrev pub started_way : List ℤ → Way
started_way states = record { hold = states; from = states; points = []; fresh = false; start_us = 0; runs = true }

-- with these points, which are fresh
abbrev pub mailed_way : Way → List Point2 → Way
mailed_way way points = record way { points = points; fresh = true }

-- after an update at the time: fresh points count from there, and lead from the states
abbrev pub moved_way : Way → ℕ → List ℤ → Way
moved_way way time_us states = if way.fresh then record way {
  from = states;
  start_us = time_us;
  fresh = false;
} else way

-- the values that the update gives
abbrev pub way_values : Way → ℕ → List ℤ → List ℤ
way_values way time_us states =
    if way.fresh then led 0 way.hold states way.points else led (time_us - way.start_us) way.hold way.from way.points
