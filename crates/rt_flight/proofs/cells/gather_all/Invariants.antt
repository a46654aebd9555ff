use Rattle.std.proofs.Common.{◌≡◌, ◌++◌, length, map, take, drop}
use Rattle.std.specs.List.{AllByRecursion}
use Rattle.rt_flight.specs.Cells.{cell_read, CanFly}
use Rattle.rt_flight.proofs.cells.gather_all.Given as goal

-- to read those that are left is to read all
abbrev pub invariant-loop-cell : goal.invariant-loop-cell
invariant-loop-cell g l = record {
  cells : take l.cell-index l.cells ++ map (cell_read l.round l.hardware.loans) (drop l.cell-index l.cells)
      ≡ map (cell_read l.round l.hardware.loans) l.fn.cells;
  each : AllByRecursion (CanFly l.round.placed l.round.related l.round.period_us (length l.hardware.loans))
      (drop l.cell-index l.cells);
}
