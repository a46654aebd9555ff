-- A pid closes the loop round a joint: from what is wanted and what is read, the output that brings the one to the
-- other. All is exact in micro-units, division rounds down, and a number is brought into the range or within a limit
-- where a formula says so.
use Rattle.std.specs.Prelude.{ℕ, ℤ, pos, ◌+ℤ◌, ◌-ℤ◌, Option, Some, None}
use Rattle.fixed_num.specs.Micro.{clamped}
use Rattle.fixed_num.specs.Arithmetic.{multiplied, within, change_at, rate_of}

-- What a pid is tuned by: the gains of the error, of its integral and of its derivative, and the limits of the integral
-- and of the output.
pub record Tuning : Type 0 where
  pub kp : ℤ
  pub ki : ℤ
  pub kd : ℤ
  pub imax : ℤ
  pub omax : ℤ

-- how far what is read lies below what is wanted
abbrev pub error_of : ℤ → ℤ → ℤ
error_of wanted state = clamped (wanted -ℤ state)

-- the integral after the error has lasted for the time, within its limit
abbrev pub integrated : Tuning → ℤ → ℤ → ℕ → ℤ
integrated tuning integral error dt_us = within tuning.imax (integral +ℤ change_at error dt_us)

-- the rate at which the error changed since the update before; 0 at the first update
abbrev pub derivative_of : Option ℤ → ℤ → ℕ → ℤ
derivative_of None error dt_us = pos 0
derivative_of (Some last) error dt_us = clamped (rate_of (error -ℤ last) dt_us)

-- the output: each of the three by its gain, together within the limit
abbrev pub corrected : Tuning → ℤ → ℤ → ℤ → ℤ
corrected tuning error integral derivative =
    within tuning.omax
    ((multiplied tuning.kp error +ℤ multiplied tuning.ki integral) +ℤ multiplied tuning.kd derivative)
