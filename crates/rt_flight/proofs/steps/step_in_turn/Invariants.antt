use Rattle.std.proofs.Common.{◌≡◌, ◌++◌, map, take, drop}
use Rattle.std.specs.List.{AllByRecursion}
use Rattle.rt_flight.specs.Cells.{cell_run, post_of, CanMakeStep}
use Rattle.rt_flight.proofs.steps.step_in_turn.Given as goal

-- those that are left make their steps as all do, and nobody comes to stand elsewhere
abbrev pub invariant-loop-cell : goal.invariant-loop-cell
invariant-loop-cell g l = record {
  cells : take l.cell-index l.cells ++ map cell_run (drop l.cell-index l.cells) ≡ map cell_run l.fn.cells;
  posts : map post_of (take l.cell-index l.cells) ++ map post_of (drop l.cell-index l.cells) ≡ map post_of l.fn.cells;
  each : AllByRecursion CanMakeStep (drop l.cell-index l.cells);
}
