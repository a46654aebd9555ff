-- What the calls of a limiter need.
use Rattle.std.specs.Prelude.{◌≡◌, ℕ, ◌+◌, ◌*◌, ◌<◌, ◌≤◌, ◌⊎◌, ℤ, pos, ◌+ℤ◌, ◌-ℤ◌, ◌≤ℤ◌, neg_ℤ, nat_abs}
use Rattle.std.specs.Int.{int_min, int_max}
use Rattle.fixed_num.specs.declared.TheConstants.{LARGEST}
use Rattle.cm_model.specs.Limiters.{Reach, way_after}
use Rattle.ctl_shape.specs.Limiters.{StopsInTime}
use Rattle.ctl_shape.specs.declared.TheConstants.{LONGEST_TIME}
use Rattle.ctl_shape.specs.declared.limits.Limits.{Limits}

-- it stands between the ends, and its last step was one between two ends of the range
pub record CanStep (reach : Reach) (at last : ℤ) : Type 0 where
  pub above : reach.lowest ≤ℤ at
  pub below : at ≤ℤ reach.highest
  pub short : nat_abs last ≤ 2 * LARGEST

-- the lowest position is not above the highest, no limit is negative, and time goes on
pub record AreLimits (limits : Limits) : Type 0 where
  pub ends : limits.min ≤ℤ limits.max
  pub speed : pos 0 ≤ℤ limits.vmax
  pub acceleration : pos 0 ≤ℤ limits.amax
  pub some_time : 1 ≤ limits.dt_us
  pub no_longer : limits.dt_us ≤ LONGEST_TIME

-- the room is one between two ends of the range, and something may change, by no more than matters there
pub record IsRoom (room change : ℕ) : Type 0 where
  pub small : room ≤ 2 * LARGEST
  pub some : 0 < change
  pub no_more : change ≤ 4 * LARGEST

-- the longest step up to one whose way to stop has room
pub record IsLongest (change room step longest : ℕ) : Type 0 where
  pub fits : longest + way_after change longest ≤ room
  pub no_more : longest ≤ step
  pub no_farther : longest < step → room < (longest + 1) + way_after change (longest + 1)

-- the longest step down that speed and change allow, and the longest up
abbrev pub least_of : Reach → ℤ → ℤ
least_of reach last = int_max (neg_ℤ (pos reach.longest)) (last -ℤ pos reach.change)

abbrev pub most_of : Reach → ℤ → ℤ
most_of reach last = int_min (pos reach.longest) (last +ℤ pos reach.change)

-- the least and the most that speed and change allow, which are steps between two ends of the range
pub record AreAllowed (reach : Reach) (last least most : ℤ) : Type 0 where
  pub least_is : least ≡ least_of reach last
  pub most_is : most ≡ most_of reach last
  pub least_short : nat_abs least ≤ 2 * LARGEST
  pub most_short : nat_abs most ≤ 2 * LARGEST

-- it stands between the ends, something may change, and the tried step is one between two ends of the range
pub record CanCut (reach : Reach) (at tried : ℤ) : Type 0 where
  pub above : reach.lowest ≤ℤ at
  pub below : at ≤ℤ reach.highest
  pub some : 0 < reach.change
  pub short : nat_abs tried ≤ 2 * LARGEST

-- a step can stop in time, and lies between the tried one and each other that can
pub record IsCut (reach : Reach) (at tried step : ℤ) : Type 0 where
  pub stops : StopsInTime reach (at +ℤ step) step
  pub between : (other : ℤ) → StopsInTime reach (at +ℤ other) other
      → ((other ≤ℤ step) × (step ≤ℤ tried)) ⊎ ((tried ≤ℤ step) × (step ≤ℤ other))
