-- A trajectory leads its claims through points in time, on straight lines from the one to the next.
use Rattle.std.specs.Prelude.{ℕ, ◌-◌, nat_le, nat_lt, ℤ, pos, ◌+ℤ◌, ◌-ℤ◌, ◌*ℤ◌, if◌then◌else◌, List, [], ◌∷◌, map}
use Rattle.std.specs.List.{zip}
use Rattle.fixed_num.specs.Micro.{clamped}
use Rattle.fixed_num.specs.Arithmetic.{floor_div}
use Rattle.cm_document.specs.declared.call.Point2.{Point2}

-- at the time t on the line from p0 at t0 to p1 at t1, rounded down
abbrev pub on_segment : ℕ → ℕ → ℕ → ℤ × ℤ → ℤ
on_segment t t0 t1 ends = clamped (ends.0 +ℤ floor_div ((ends.1 -ℤ ends.0) *ℤ pos (t - t0)) (pos (t1 - t0)))

-- each value on its line from where it was at t0 to the point
abbrev pub towards : ℕ → ℕ → List ℤ → Point2 → List ℤ
towards t t0 from point = map (on_segment t t0 point.at_us) (zip from point.values)

-- the values at the time t, on the way from where they were at t0 through these points: the first that is still to come
-- is the one to go to
abbrev pub on_way : ℕ → ℕ → List ℤ → List Point2 → List ℤ
on_way t t0 from [] = from
on_way t t0 from (point ∷ later) =
    if nat_lt t point.at_us then towards t t0 from point else on_way t point.at_us point.values later

-- the last of these points, the first of which stands before the others
abbrev pub last_point : Point2 → List Point2 → Point2
last_point point [] = point
last_point point (next ∷ later) = last_point next later

-- The values at the time t after the start: without points those to hold, from the last point's time on that point's,
-- and before it those on the way.
abbrev pub led : ℕ → List ℤ → List ℤ → List Point2 → List ℤ
led t hold from [] = hold
led t hold from (point ∷ later) =
    if nat_le (last_point point later).at_us t then (last_point point later).values else on_way t 0 from (point ∷ later)
