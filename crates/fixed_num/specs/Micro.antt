-- Numbers in whole micro-units, and their range.
use Rattle.std.specs.Prelude.{ℤ, pos, neg_ℤ, ◌*ℤ◌, ◌≤ℤ◌, int_le, ◌&&◌, if◌then◌else◌, Option, Some, None}
use Rattle.std.specs.Int.{int_min, int_max}
use Rattle.fixed_num.specs.declared.TheConstants.{MICRO, MOST_UNITS, LARGEST}

-- the largest number of micro-units
abbrev pub largest : ℤ
largest = pos LARGEST

-- the smallest number of micro-units
abbrev pub smallest : ℤ
smallest = neg_ℤ (pos LARGEST)

-- a number stays from the smallest to the largest
abbrev pub IsInRange : ℤ → Type 0
IsInRange n = (smallest ≤ℤ n) × (n ≤ℤ largest)

-- the nearest number in the range
unfoldable pub clamped : ℤ → ℤ
clamped n = int_min (int_max n smallest) largest

-- so many whole units, in micro-units: a thousand million at most, on both sides
abbrev pub units : ℤ → Option ℤ
units n = if int_le (neg_ℤ (pos MOST_UNITS)) n && int_le n (pos MOST_UNITS) then Some (n *ℤ pos MICRO) else None
