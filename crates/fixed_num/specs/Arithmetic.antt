-- Exact arithmetic on micro-units: each result is the exact one, rounded down where it is a division, and then brought
-- into the range.
use Rattle.std.specs.Prelude.{ℕ, ℤ, pos, ◌+ℤ◌, ◌-ℤ◌, ◌*ℤ◌, ◌≤ℤ◌, ◌<ℤ◌, neg_ℤ}
use Rattle.std.specs.Int.{int_min, int_max, int_div_euclid}
use Rattle.fixed_num.specs.Micro.{clamped}
use Rattle.fixed_num.specs.declared.TheConstants.{MICRO}

-- The quotient rounded down, for a divisor above 0: -1 divided by 1,000,000 is -1.
unfoldable pub floor_div : ℤ → ℤ → ℤ
floor_div z d = int_div_euclid z d

-- q is the greatest whole number whose d-fold is not above z
pub record IsFloor (z d q : ℤ) : Type 0 where
  pub not_above : (q *ℤ d) ≤ℤ z
  pub greatest : z <ℤ ((q +ℤ pos 1) *ℤ d)

-- a number lies from -limit to limit
abbrev pub IsWithin : ℤ → ℤ → Type 0
IsWithin limit z = (neg_ℤ limit ≤ℤ z) × (z ≤ℤ limit)

-- the nearest number from -limit to limit
unfoldable pub within : ℤ → ℤ → ℤ
within limit z = int_max (neg_ℤ limit) (int_min z limit)

-- the sum, in the range
abbrev pub added : ℤ → ℤ → ℤ
added a b = clamped (a +ℤ b)

-- the difference, in the range
abbrev pub subtracted : ℤ → ℤ → ℤ
subtracted a b = clamped (a -ℤ b)

-- the number times num over den, rounded down, in the range
abbrev pub ratio : ℤ → ℤ → ℤ → ℤ
ratio a num den = clamped (floor_div (a *ℤ num) den)

-- The product of two numbers of micro-units is in millionths of a micro-unit, so a million divides it.
abbrev pub multiplied : ℤ → ℤ → ℤ
multiplied a b = ratio a b (pos MICRO)

-- what a rate, in units a second, adds up to in a time in microseconds, rounded down
abbrev pub change_at : ℤ → ℕ → ℤ
change_at rate dt_us = floor_div (rate *ℤ pos dt_us) (pos MICRO)

-- the rate, in units a second, at which a change in a time in microseconds was made, rounded down
abbrev pub rate_of : ℤ → ℕ → ℤ
rate_of change dt_us = floor_div (change *ℤ pos MICRO) (pos dt_us)
