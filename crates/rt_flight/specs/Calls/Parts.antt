-- What the parts of a flight ask, and what they leave.
use Rattle.std.specs.Prelude.{◌≡◌, ℕ, ◌+◌, ◌<◌, true, false, List, [], ◌++◌, map, take, drop, None, Some, is_some}
use Rattle.std.specs.Prelude.{IsSomeAnd}
use Rattle.std.specs.List.{AllByRecursion}
use Rattle.rt_flight.specs.Cells.{CellFacts, cell_read, cell_run, cell_put, flying, all_put, post_of}
use Rattle.rt_flight.specs.Depths.{AreDeepened}
use Rattle.rt_flight.specs.Progress.{Progress, round_in}
use Rattle.rt_flight.specs.Flights.{FlightFacts}

-- ---- When they may be called

-- it was started and is not computed
abbrev pub IsStarted : FlightFacts → Type 0
IsStarted f = (f.outcome ≡ None) × (is_some f.progress ≡ true)

-- The depths below gave out, and this one was not gathered.
abbrev pub CanGather : ℕ → FlightFacts → Type 0
CanGather depth f =
    (f.outcome ≡ None)
    × IsSomeAnd f.progress (λ p. (p.gathered ≡ false) × ((p.scattered ≡ depth) × (depth < p.depths)))

-- This depth was gathered and did not give out.
abbrev pub Waits : ℕ → FlightFacts → Type 0
Waits depth f = (f.outcome ≡ None) × IsSomeAnd f.progress (λ p. (p.gathered ≡ true) × (p.scattered ≡ depth))

-- All depths gave out.
abbrev pub CanComplete : FlightFacts → Type 0
CanComplete f =
    (f.outcome ≡ None) × IsSomeAnd f.progress (λ p. (p.gathered ≡ false) × (p.scattered ≡ p.depths))

-- the cells that wait, among these
abbrev pub waiting_of : Progress → List CellFacts → List CellFacts
waiting_of p cells = take p.waiting (drop p.turned cells)

-- these in place of those that wait
abbrev pub with_waiting : Progress → List CellFacts → List CellFacts → List CellFacts
with_waiting p cells others = take p.turned cells ++ (others ++ drop p.waiting (drop p.turned cells))

-- The cells are, in order, those that the gathering left, but that each of those that wait made its step.
pub record HaveMadeSteps (p : Progress) (cells : List CellFacts) : Type 0 where
  pub stand : cells ≡ with_waiting p p.left (map cell_run (waiting_of p p.left))
  pub posts : map post_of cells ≡ map post_of p.left

-- ---- What they leave

-- A flight that was started is before its first depth. Its cells are the same, with their depths.
pub record IsAtFirst (cells cells' : List CellFacts) (p : Progress) : Type 0 where
  pub scattered : p.scattered ≡ 0
  pub gathered : p.gathered ≡ false
  pub turned : p.turned ≡ 0
  pub deepened : AreDeepened cells cells'
  pub begun : p.begun ≡ cells'

-- Only its cells, its hardware and its progress changed.
pub record HasStarted (f f' : FlightFacts) : Type 0 where
  pub first : IsSomeAnd f'.progress (IsAtFirst f.cells f'.cells)
  pub not_yet : f'.outcome ≡ None
  pub same : f' ≡ record f {
    cells = f'.cells;
    robot = record f.robot { hardware = f'.robot.hardware };
    progress = f'.progress;
  }

-- So many cells, which are those of this depth, have read, and wait to give out. Only cells and progress changed.
pub record HasGathered (depth : ℕ) (p : Progress) (f f' : FlightFacts) : Type 0 where
  pub count : ℕ
  pub one_depth : AllByRecursion (λ c. c.depth ≡ depth) (take count (drop p.turned f.cells))
  pub deeper : AllByRecursion (λ c. depth < c.depth) (drop count (drop p.turned f.cells))
  pub progress : f'.progress ≡ Some (record p { gathered = true; waiting = count; left = f'.cells })
  pub cells : f'.cells
      ≡ take p.turned f.cells
      ++ (map (cell_read (round_in f.number p.read) f.robot.hardware.loans) (take count (drop p.turned f.cells))
      ++ drop count (drop p.turned f.cells))
  pub same : f' ≡ record f { cells = f'.cells; progress = f'.progress }

-- What the cells that waited came to stands in their claims, and whose update failed is told.
pub record HasScattered (p : Progress) (f f' : FlightFacts) : Type 0 where
  pub cells : f'.cells ≡ with_waiting p f.cells (map cell_put (waiting_of p f.cells))
  pub board : f'.robot.hardware
      ≡ (all_put f.robot.places (waiting_of p f.cells) (flying f.robot.hardware [] f.erred)).hardware
  pub erred : f'.erred ≡ (all_put f.robot.places (waiting_of p f.cells) (flying f.robot.hardware [] f.erred)).erred
  pub progress : f'.progress
      ≡ Some (record p {
        scattered = p.scattered + 1;
        gathered = false;
        turned = p.turned + p.waiting;
        waiting = 0;
        left = f'.cells;
      })
  pub same : f' ≡ record f {
    cells = f'.cells;
    robot = record f.robot { hardware = f'.robot.hardware };
    erred = f'.erred;
    progress = f'.progress;
  }

-- One depth more gave out.
pub record IsPastDepth (p q : Progress) : Type 0 where
  pub scattered : q.scattered ≡ p.scattered + 1
  pub gathered : q.gathered ≡ false
  pub depths : q.depths ≡ p.depths
  pub begun : q.begun ≡ p.begun
  pub read : q.read ≡ p.read

-- The cells of one depth had their turns.
pub record HadTurns (p : Progress) (f f' : FlightFacts) : Type 0 where
  pub number : f'.number ≡ f.number
  pub not_yet : f'.outcome ≡ None
  pub progress : IsSomeAnd f'.progress (IsPastDepth p)
