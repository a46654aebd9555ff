-- The limits of a pid, and what stays within them.
use Rattle.std.specs.Prelude.{ℤ, pos, ◌≤ℤ◌, List}
use Rattle.std.specs.List.{AllByRecursion}
use Rattle.fixed_num.specs.Arithmetic.{IsWithin}
use Rattle.fixed_num.specs.declared.value.Value.{Value}
use Rattle.fixed_num.specs.declared.value.Value.TheVariants.{Unset, Num}
use Rattle.cm_model.specs.Pids.{Tuning}
use Rattle.cm_model.specs.declared.data.RunData.{RunData}
use Rattle.cm_model.specs.declared.data.RunData.TheVariants as run

-- neither limit is negative
pub record HasLimits (tuning : Tuning) : Type 0 where
  pub integral : pos 0 ≤ℤ tuning.imax
  pub output : pos 0 ≤ℤ tuning.omax

-- it is unset, or a number within the limit
abbrev pub IsUnsetOrWithin : ℤ → Value → Type 0
IsUnsetOrWithin limit Unset = Unit {0}
IsUnsetOrWithin limit (Num output) = IsWithin limit output

-- so is each output
abbrev pub GivesWithin : ℤ → List Value → Type 0
GivesWithin limit outs = AllByRecursion (IsUnsetOrWithin limit) outs

-- the integral of a pid that runs is within the limit
abbrev pub IntegralIsWithin : ℤ → RunData → Type 0
IntegralIsWithin limit (run.Pid chained set integral last) = IsWithin limit integral
IntegralIsWithin limit _ = Unit {0}
