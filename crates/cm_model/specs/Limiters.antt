-- A limiter leads a position, step by step, to where it is wanted: between two ends, and within a speed and an
-- acceleration. A step is so many whole micro-units from one update to the next.
use Rattle.std.specs.Prelude.{ℕ, zero, suc, ◌+◌, ◌-◌, ◌*◌, ◌==◌, nat_le, nat_lt, Bool, ◌&&◌, ◌||◌, if◌then◌else◌}
use Rattle.std.specs.Prelude.{ℤ, pos, negsuc, ◌+ℤ◌, ◌-ℤ◌, ◌*ℤ◌, int_le, nat_abs, Option, Some, None, unwrap_or}
use Rattle.std.specs.Int.{int_min, int_max}
use Rattle.fixed_num.specs.Arithmetic.{floor_div, change_at}
use Rattle.fixed_num.specs.declared.TheConstants.{MICRO}
use Rattle.fixed_num.specs.declared.value.Value.{Value}
use Rattle.fixed_num.specs.declared.value.Value.TheVariants.{Unset, Num}

-- What bounds a position: its two ends, the highest speed and the highest acceleration, in units a second and a second
-- squared.
pub record Bounds : Type 0 where
  pub lowest : ℤ
  pub highest : ℤ
  pub speed : ℤ
  pub acceleration : ℤ

-- the ends, how long a step may be, and by how much it may differ from the one before
pub record Reach : Type 0 where
  pub lowest : ℤ
  pub highest : ℤ
  pub longest : ℕ
  pub change : ℕ

-- what a speed and an acceleration come to in the time of one update, each rounded down
abbrev pub reach_of : Bounds → ℕ → Reach
reach_of bounds dt_us = record {
  lowest = bounds.lowest;
  highest = bounds.highest;
  longest = nat_abs (change_at bounds.speed dt_us);
  change = nat_abs (floor_div (bounds.acceleration *ℤ pos (dt_us * dt_us)) (pos (MICRO * MICRO)));
}

-- a number brought between two ends
abbrev pub between : ℤ → ℤ → ℤ → ℤ
between lowest highest r = int_max lowest (int_min r highest)

-- a number brought between the ends
abbrev pub brought : Reach → ℤ → ℤ
brought reach r = between reach.lowest reach.highest r

-- the wanted step: to the wanted position, brought between the ends, and none if nothing is wanted
abbrev pub wanted_step : Reach → ℤ → Value → ℤ
wanted_step reach at Unset = pos 0
wanted_step reach at (Num r) = brought reach r -ℤ at

-- ---- Which steps are feasible

-- the lengths of the n steps that follow one of s, added up: each is a less than the one before, as long as it can be
abbrev pub slowing : ℕ → ℕ → ℕ → ℕ
slowing a s zero = 0
slowing a s (suc n) = (s - a) + slowing a (s - a) n

-- the way that is still needed to stop after a step of s
abbrev pub way_after : ℕ → ℕ → ℕ
way_after a s = slowing a s s

-- after a step that brought it to a place it can stop before the end to which it goes
abbrev pub stops_in_time : Reach → ℤ → ℤ → Bool
stops_in_time reach to (pos s) = int_le (to +ℤ pos (way_after reach.change s)) reach.highest
stops_in_time reach to (negsuc s) = int_le reach.lowest (to -ℤ pos (way_after reach.change (suc s)))

-- A step is feasible from a place, after the step that led there: it is no longer than it may be, it differs from the
-- last by no more than it may, it can stop in time, and if nothing may change it is none.
abbrev pub is_feasible : Reach → ℤ → ℤ → ℤ → Bool
is_feasible reach at last step =
    nat_le (nat_abs step) reach.longest
    && (nat_le (nat_abs (step -ℤ last)) reach.change
    && (stops_in_time reach (at +ℤ step) step && (nat_lt 0 reach.change || nat_abs step == 0)))

-- ---- The new step

-- The first feasible step of the two that are so far from the wanted one, then of those that are one farther, and so
-- on, so many times.
unfoldable pub nearest_from : Reach → ℤ → ℤ → ℤ → ℕ → ℕ → Option ℤ
nearest_from reach at last wanted far zero = None
nearest_from reach at last wanted far (suc times) =
    if is_feasible reach at last (wanted -ℤ pos far) then Some (wanted -ℤ pos far)
    else if is_feasible reach at last (wanted +ℤ pos far) then Some (wanted +ℤ pos far)
    else nearest_from reach at last wanted (far + 1) times

-- The new step is the feasible one that is nearest to the wanted one, and none if no step is feasible: no step that is
-- no longer than it may be is farther from the wanted one than both are long together.
unfoldable pub new_step : Reach → ℤ → ℤ → ℤ → ℤ
new_step reach at last wanted =
    unwrap_or (nearest_from reach at last wanted 0 (suc (nat_abs wanted + reach.longest))) (pos 0)
