-- What is said of limiters: which steps are feasible, which is the new one, and what a run of them keeps.
use Rattle.std.specs.Prelude.{◌≡◌, suc, ◌≤◌, List, [], ◌∷◌, ◌⊎◌}
use Rattle.std.specs.Prelude.{ℤ, pos, negsuc, ◌+ℤ◌, ◌-ℤ◌, ◌≤ℤ◌, nat_abs}
use Rattle.fixed_num.specs.declared.value.Value.{Value}
use Rattle.cm_model.specs.Limiters.{Bounds, Reach, reach_of, way_after, brought, wanted_step}
use Rattle.ctl_shape.specs.declared.limits.Limits.{Limits}

-- limits are bounds and the time of an update
abbrev pub bounds_in : Limits → Bounds
bounds_in limits = record {
  lowest = limits.min;
  highest = limits.max;
  speed = limits.vmax;
  acceleration = limits.amax;
}

-- what limits come to in the time of one update
abbrev pub reach_in : Limits → Reach
reach_in limits = reach_of (bounds_in limits) limits.dt_us

-- after a step that brought it to a place it can stop before the end to which it goes
abbrev pub StopsInTime : Reach → ℤ → ℤ → Type 0
StopsInTime reach to (pos s) = (to +ℤ pos (way_after reach.change s)) ≤ℤ reach.highest
StopsInTime reach to (negsuc s) = reach.lowest ≤ℤ (to -ℤ pos (way_after reach.change (suc s)))

-- A step is feasible from a place, after the step that led there: it is no longer than it may be, it differs from the
-- last by no more than it may, it can stop in time, and if nothing may change it is none.
pub record IsFeasible (reach : Reach) (at last step : ℤ) : Type 0 where
  pub no_longer : nat_abs step ≤ reach.longest
  pub near_last : nat_abs (step -ℤ last) ≤ reach.change
  pub stops : StopsInTime reach (at +ℤ step) step
  pub still : reach.change ≡ 0 → step ≡ pos 0

-- the feasible step that is nearest to the wanted one
pub record IsNearest (reach : Reach) (at last wanted step : ℤ) : Type 0 where
  pub feasible : IsFeasible reach at last step
  pub no_nearer : (other : ℤ) → IsFeasible reach at last other → nat_abs (step -ℤ wanted) ≤ nat_abs (other -ℤ wanted)

-- The new step is the feasible one that is nearest to the wanted one, and none if no step is feasible.
abbrev pub IsNewStep : Reach → ℤ → ℤ → ℤ → ℤ → Type 0
IsNewStep reach at last wanted step =
    IsNearest reach at last wanted step
    ⊎ ((step ≡ pos 0) × ((other : ℤ) → IsFeasible reach at last other → ⊥))

-- The outputs of a run from a place, after a step, for these wanted values: each is one new step further.
abbrev pub IsRun : Reach → ℤ → ℤ → List Value → List ℤ → Type 0
IsRun reach at last [] [] = Unit {0}
IsRun reach at last (w ∷ wanted) (out ∷ outs) =
    IsNewStep reach at last (wanted_step reach at w) (out -ℤ at) × IsRun reach out (out -ℤ at) wanted outs
IsRun _ _ _ _ _ = ⊥

-- a run that begins without a step at a place that is brought between the ends
abbrev pub IsRunFrom : Reach → ℤ → List Value → List ℤ → Type 0
IsRunFrom reach start wanted outs = IsRun reach (brought reach start) (pos 0) wanted outs

-- a place and the step that led there from which a limiter keeps its limits: it stands between the ends, the step was
-- no longer than it may be, it can stop in time, and if nothing may change it stood still
pub record IsSafe (reach : Reach) (at last : ℤ) : Type 0 where
  pub above : reach.lowest ≤ℤ at
  pub below : at ≤ℤ reach.highest
  pub no_longer : nat_abs last ≤ reach.longest
  pub stops : StopsInTime reach at last
  pub still : reach.change ≡ 0 → last ≡ pos 0

-- One output keeps the limits: its step from a place, after the step that led there, is feasible; the output lies
-- between the ends; the position changes by no more than the speed allows, and the step by no more than the
-- acceleration.
pub record KeepsLimits (reach : Reach) (at last out : ℤ) : Type 0 where
  pub feasible : IsFeasible reach at last (out -ℤ at)
  pub above : reach.lowest ≤ℤ out
  pub below : out ≤ℤ reach.highest
  pub speed : nat_abs (out -ℤ at) ≤ reach.longest
  pub acceleration : nat_abs ((out -ℤ at) -ℤ last) ≤ reach.change

-- each output of a run from a place, after a step, keeps the limits
abbrev pub AllKeepLimits : Reach → ℤ → ℤ → List ℤ → Type 0
AllKeepLimits reach at last [] = Unit {0}
AllKeepLimits reach at last (out ∷ outs) =
    KeepsLimits reach at last out × AllKeepLimits reach out (out -ℤ at) outs
