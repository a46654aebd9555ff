use Rattle.std.proofs.Common.{◌≡◌, ◌+◌, ◌<◌, ◌≤◌, ◌^◌, ◌++◌, length, map, take, drop, vec_len, vec_capacity}
use Rattle.std.specs.List.{AllByRecursion}
use Rattle.rt_flight.specs.Workspaces.{IsConnectedTo}
use Rattle.rt_flight.specs.Cells.{flying, cell_put, all_put, all_outs, all_numbers}
use Rattle.rt_flight.proofs.cells.scatter_all.Given as goal

-- to put what those that are left gave out is to put all, and there is room for it
abbrev pub invariant-loop-cell : goal.invariant-loop-cell
invariant-loop-cell g l = record {
  cells : take l.cell-index l.cells ++ map cell_put (drop l.cell-index l.cells) ≡ map cell_put l.fn.cells;
  flying : all_put l.places (drop l.cell-index l.cells) (flying l.hardware l.ran.rans l.erred.items)
      ≡ all_put l.places l.fn.cells (flying l.fn.hardware l.fn.ran.rans l.fn.erred.items);
  connected : AllByRecursion (λ c. IsConnectedTo l.places (length l.hardware.loans) c.workspace)
      (drop l.cell-index l.cells);
  few_states : AllByRecursion (λ c. length c.workspace.states < 2 ^ 8) (drop l.cell-index l.cells);
  few_outs : AllByRecursion (λ c. length c.workspace.outs < 2 ^ 8) (drop l.cell-index l.cells);
  heads : length (drop l.cell-index l.cells) ≤ l.ran.heads;
  values : all_outs (drop l.cell-index l.cells) ≤ l.ran.values;
  numbers : all_numbers (drop l.cell-index l.cells) ≤ l.ran.numbers;
  erred : vec_len l.erred + length (drop l.cell-index l.cells) ≤ vec_capacity l.erred;
  board : length l.hardware.loans ≡ length l.fn.hardware.loans;
  left_heads : l.fn.ran.heads + length (drop l.cell-index l.cells) ≤ l.ran.heads + length l.fn.cells;
  left_values : l.fn.ran.values + all_outs (drop l.cell-index l.cells) ≤ l.ran.values + all_outs l.fn.cells;
  left_numbers : l.fn.ran.numbers + all_numbers (drop l.cell-index l.cells) ≤ l.ran.numbers + all_numbers l.fn.cells;
  more : vec_len l.erred + length (drop l.cell-index l.cells) ≤ vec_len l.fn.erred + length l.fn.cells;
  capacity : vec_capacity l.erred ≡ vec_capacity l.fn.erred;
}
