-- The gear and the limiter that are timed.
use Rattle.std.specs.Prelude.{ℕ, ◌*◌, ◌≤◌, ℤ, pos, ◌+ℤ◌, ◌-ℤ◌, ◌≤ℤ◌, nat_abs, Option, Some, None, if◌then◌else◌}
use Rattle.fixed_num.specs.declared.TheConstants.{LARGEST}
use Rattle.fixed_num.specs.declared.value.Value.TheVariants.{Num}
use Rattle.cm_model.specs.Limiters.{Reach, wanted_step, is_feasible}
use Rattle.ctl_shape.specs.Limiters.{IsNewStep}
use Rattle.cm_bench.specs.declared.cases.TheConstants.{LOWEST, HIGHEST}
use Rattle.cm_bench.specs.declared.limits.TheConstants.{LONGEST, CHANGE}

-- what limits the limiter that is timed
abbrev pub timed : Reach
timed = record { lowest = LOWEST; highest = HIGHEST; longest = LONGEST; change = CHANGE }

-- it stands between the ends, and its last step was one between two ends of the range
pub record CanGoOn (at last : ℤ) : Type 0 where
  pub above : LOWEST ≤ℤ at
  pub below : at ≤ℤ HIGHEST
  pub short : nat_abs last ≤ 2 * LARGEST

-- A place is one new step of it further towards what is wanted, from one place, after the step that led there.
abbrev pub IsOneOn : ℤ → ℤ → ℤ → ℤ → Type 0
IsOneOn at last wanted place = IsNewStep timed at last (wanted_step timed at (Num wanted)) (place -ℤ at)

-- the feasible one of the two steps that are so far from the wanted one
abbrev pub one_so_far : ℤ → ℤ → ℤ → ℕ → Option ℤ
one_so_far at last wanted far =
    if is_feasible timed at last (wanted -ℤ pos far) then Some (wanted -ℤ pos far)
    else if is_feasible timed at last (wanted +ℤ pos far) then Some (wanted +ℤ pos far)
    else None
