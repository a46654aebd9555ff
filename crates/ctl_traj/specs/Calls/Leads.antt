-- What the way to a point asks.
use Rattle.std.specs.Prelude.{◌≡◌, ℕ, ℤ, ◌<◌, ◌≤◌, true, List, length}
use Rattle.cm_document.specs.declared.call.Point2.{Point2}
use Rattle.ctl_traj.specs.Led.{all_have, HaveCome}

-- The way to a point has begun, and the point lies ahead. For each of so many claims there is a value where it began,
-- and one at the point.
pub record IsAhead (t t0 : ℕ) (from : List ℤ) (point : Point2) (claims : ℕ) : Type 0 where
  pub begun : t0 ≤ t
  pub ahead : t < point.at_us
  pub whole : length from ≡ claims
  pub fit : length point.values ≡ claims

-- There is a value for each of so many claims where the way began, and one at each point; and of so many points the
-- times have come.
pub record CanGoOn (t : ℕ) (from : List ℤ) (points : List Point2) (come claims : ℕ) : Type 0 where
  pub whole : length from ≡ claims
  pub fit : all_have claims points ≡ true
  pub passed : HaveCome t points come
