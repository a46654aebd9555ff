-- Where a trajectory is between two of its points.
use Rattle.std.specs.Prelude.{◌≡◌, ℕ, ◌<◌, ◌≤◌, ℤ, ◌≤ℤ◌, List, [], ◌∷◌, ◌⊎◌}
use Rattle.std.specs.Int.{int_min, int_max}
use Rattle.std.specs.List.{AllByRecursion}
use Rattle.fixed_num.specs.Micro.{IsInRange}
use Rattle.cm_document.specs.declared.call.Point2.{Point2}

-- where it was at the start, as a point
abbrev pub point_at_start : List ℤ → Point2
point_at_start from = record { at_us = 0; values = from }

-- all values of these points are in the range of numbers
abbrev pub AreNumbers : List Point2 → Type 0
AreNumbers points = AllByRecursion (λ p. AllByRecursion IsInRange p.values) points

-- z lies between a and b, whichever is the greater
pub record LiesBetween (a b z : ℤ) : Type 0 where
  pub not_below : int_min a b ≤ℤ z
  pub not_above : z ≤ℤ int_max a b

-- each of the numbers zs lies between the two at its index
abbrev pub LieBetween : List ℤ → List ℤ → List ℤ → Type 0
LieBetween from to [] = Unit {0}
LieBetween (a ∷ from) (b ∷ to) (z ∷ zs) = LiesBetween a b z × LieBetween from to zs
LieBetween from to (z ∷ zs) = ⊥

-- two points that follow one another
abbrev pub Follow : List Point2 → Point2 → Point2 → Type 0
Follow (a ∷ b ∷ points) p q = ((a ≡ p) × (b ≡ q)) ⊎ Follow (b ∷ points) p q
Follow points p q = ⊥

-- At the time t it is between two points that follow one another: the time of the one has come, that of the other is to
-- come, and the outputs lie between their values.
pub record GoesBetween (t : ℕ) (points : List Point2) (outs : List ℤ) : Type 0 where
  pub last : Point2
  pub next : Point2
  pub follow : Follow points last next
  pub come : last.at_us ≤ t
  pub to_come : t < next.at_us
  pub between : LieBetween last.values next.values outs
