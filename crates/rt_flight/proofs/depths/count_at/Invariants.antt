use Rattle.std.proofs.Common.{◌≡◌, ◌≤◌, ◌-◌, length, take}
use Rattle.std.specs.List.{AllByRecursion}
use Rattle.rt_flight.proofs.depths.count_at.Given as goal

-- those so far stand in the depth
abbrev pub invariant-loop-count : goal.invariant-loop-count
invariant-loop-count g l = record {
  within : l.count ≤ length l.cells;
  one_depth : AllByRecursion (λ c. c.depth ≡ l.depth) (take l.count l.cells);
}

abbrev pub decreases-loop-count : goal.decreases-loop-count
decreases-loop-count g l = length l.cells - l.count
