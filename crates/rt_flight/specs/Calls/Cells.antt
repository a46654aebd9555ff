-- What the parts of the turns of cells ask, and what they leave.
use Rattle.std.specs.Prelude.{◌≡◌, ℕ, ◌+◌, ◌<◌, ◌≤◌, ◌^◌, List, length, map}
use Rattle.std.specs.List.{AllByRecursion}
use Rattle.cm_storage.specs.Ran.{Filling}
use Rattle.cm_places.specs.Placed.{Placed}
use Rattle.cm_slots.specs.Updates.{Aloft, IsTimely}
use Rattle.rt_flight.specs.Workspaces.{IsConnectedTo}
use Rattle.rt_flight.specs.Cells.{CellFacts, Flying, cell_run, cells_after, all_flown, post_of, CanFly, CanTell}
use Rattle.rt_flight.specs.Cells.{CanBeTold}

-- What a cell gave out can be put on a board of so many interfaces, and told; there is room for its serial beside so
-- many others.
pub record CanPut (placed : Placed) (board : ℕ) (c : CellFacts) (room : Filling) (count most : ℕ) : Type 0 where
  pub connected : IsConnectedTo placed board c.workspace
  pub few_states : length c.workspace.states < 2 ^ 8
  pub few_outs : length c.workspace.outs < 2 ^ 8
  pub told : CanBeTold c room
  pub erred : count + 1 ≤ most

-- the same of all of these
pub record CanPutAll (placed : Placed) (board : ℕ) (cs : List CellFacts) (room : Filling) (count most : ℕ) : Type 0
  where
    pub connected : AllByRecursion (λ c. IsConnectedTo placed board c.workspace) cs
    pub few_states : AllByRecursion (λ c. length c.workspace.states < 2 ^ 8) cs
    pub few_outs : AllByRecursion (λ c. length c.workspace.outs < 2 ^ 8) cs
    pub told : CanTell cs room
    pub erred : count + length cs ≤ most

-- Then the board is as large as before; of the room for what is told so much is left at least; and so many serials more
-- stand there at most, within the same capacity.
pub record LeavesPut (cells outs published : ℕ) (loans loans' : ℕ) (room room' : Filling) (count count' most most' : ℕ)
    : Type 0 where
  pub board : loans' ≡ loans
  pub heads : room.heads ≤ room'.heads + cells
  pub values : room.values ≤ room'.values + outs
  pub numbers : room.numbers ≤ room'.numbers + published
  pub erred : count' ≤ count + cells
  pub capacity : most' ≡ most

-- These cells can have their turns on a board of so many interfaces.
pub record CanTurn (a : Aloft) (board : ℕ) (cs : List CellFacts) (room : Filling) (count most : ℕ) : Type 0 where
  pub timely : IsTimely a
  pub each : AllByRecursion (CanFly a.placed a.related a.period_us board) cs
  pub told : CanTell cs room
  pub erred : count + length cs ≤ most

-- They had their turns: they and the work come to what they come to one after the other, and who stands there and how
-- much room each has is as before.
pub record HaveTurned (a : Aloft) (cs cs' : List CellFacts) (f f' : Flying) : Type 0 where
  pub cells : cs' ≡ cells_after a cs f
  pub flying : f' ≡ all_flown a cs f
  pub posts : map post_of cs' ≡ map post_of cs

-- ---- Steps

-- This cell made its step: who stands there, and how much room there is, is as before.
pub record HasStepped (c c' : CellFacts) : Type 0 where
  pub cell : c' ≡ cell_run c
  pub post : post_of c' ≡ post_of c

-- Each of these cells made its step.
pub record HaveStepped (cs cs' : List CellFacts) : Type 0 where
  pub cells : cs' ≡ map cell_run cs
  pub posts : map post_of cs' ≡ map post_of cs
