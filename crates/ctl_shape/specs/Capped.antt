-- Limits that are larger than the range of numbers lets matter.
use Rattle.std.specs.Prelude.{◌*◌, ◌≤◌, min}
use Rattle.fixed_num.specs.Micro.{IsInRange}
use Rattle.fixed_num.specs.declared.TheConstants.{LARGEST}
use Rattle.cm_model.specs.Limiters.{Reach}

-- A step between two ends is no longer than twice the largest number, and two steps differ by no more than twice that.
-- So larger limits come to the same as these.
abbrev pub capped : Reach → Reach
capped reach = record {
  lowest = reach.lowest;
  highest = reach.highest;
  longest = min reach.longest (2 * LARGEST);
  change = min reach.change (4 * LARGEST);
}

-- the ends are numbers of the range, and nothing is larger than that lets matter
pub record IsCapped (reach : Reach) : Type 0 where
  pub lowest : IsInRange reach.lowest
  pub highest : IsInRange reach.highest
  pub longest : reach.longest ≤ 2 * LARGEST
  pub change : reach.change ≤ 4 * LARGEST
