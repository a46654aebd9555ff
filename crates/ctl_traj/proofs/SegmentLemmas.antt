-- A part of a way is no more than the way.
use Rattle.std.proofs.Common.{◌≡◌, ℕ, ◌-◌, ◌<◌, ◌≤◌, ℤ, pos, ◌*ℤ◌, nat_abs, List, []}
use Rattle.std.proofs.Common.{true, false, ◌∷◌, length, Some, refl, sym, ◌∙◌, arith}
use Rattle.std.specs.Prelude.{nat_le}
use Rattle.std.specs.List.{slice_get, zip}
use Rattle.std.proofs.lemmas.Bool.Decides.{nat_tests}
use Rattle.std.proofs.lemmas.List.{length-map}
use Rattle.std.proofs.lemmas.Slice.Zip.{length-zip}
use Rattle.std.proofs.lemmas.Int.{ints, to_z-of_z}
use Rattle.std.proofs.lemmas.Option.{same_Some}
use Rattle.cm_document.specs.declared.call.Point2.{Point2}
use Rattle.cm_model.specs.Ways.{on_segment, towards, last_point, on_way, led}
use Rattle.fixed_num.specs.Arithmetic.{IsWithin, floor_div}
use Rattle.fixed_num.proofs.ArithmeticLemmas.{product_within, floor_within}

pub share_no_more : (way : ℤ) (gone time : ℕ) → gone < time
    → nat_abs (floor_div (way *ℤ pos gone) (pos time)) ≤ nat_abs way
share_no_more way gone time part =
    let near : IsWithin (pos (nat_abs way)) way = (omega (arith, ints), omega (arith, ints)) in
    let product = product_within way (nat_abs way) gone time near (omega (arith, part)) in
    let share = floor_within (way *ℤ pos gone) (nat_abs way) time (omega (arith, part)) product in
    omega (arith, ints, share.0, share.1)

-- how large parts of a way are
pub ruleset sizes = (ints, to_z-of_z, share_no_more)

-- ---- The last point

-- the last of some points, by its index
last_at : (p : Point2) (ps : List Point2) → slice_get (p ∷ ps) (length ps) ≡ Some (last_point p ps)
last_at p [] = refl
last_at p (q ∷ qs) = last_at q qs

-- the last point is the one at the last index
last_is : (p : Point2) (ps : List Point2) (last : Point2) → slice_get (p ∷ ps) (length (p ∷ ps) - 1) ≡ Some last
    → last_point p ps ≡ last
last_is p ps last is =
    let n : length (p ∷ ps) - 1 ≡ length ps = omega arith in
    let found : slice_get (p ∷ ps) (length ps) ≡ Some last = rw n at is in
    same_Some (last_point p ps) last (sym (last_at p ps) ∙ found)

-- from the last point's time on its values are given
pub led_at_end : (t : ℕ) (hold from : List ℤ) (points : List Point2) (last : Point2)
    → slice_get points (length points - 1) ≡ Some last → last.at_us ≤ t →
    led t hold from points ≡ last.values
led_at_end t hold from [] last is past = let differs = is in cc
led_at_end t hold from (p ∷ ps) last is past =
    let over : nat_le last.at_us t ≡ true = grind (arith, nat_tests) in
    rw (last_is p ps last is, over) refl

-- and before it those on the way
pub led_before_end : (t : ℕ) (hold from : List ℤ) (points : List Point2) (last : Point2)
    → slice_get points (length points - 1) ≡ Some last → t < last.at_us →
    led t hold from points ≡ on_way t 0 from points
led_before_end t hold from [] last is ahead = let differs = is in cc
led_before_end t hold from (p ∷ ps) last is ahead =
    let under : nat_le last.at_us t ≡ false = grind (arith, nat_tests) in
    rw (last_is p ps last is, under) refl

-- ---- The way to a point

-- a value for each, where there is one at both ends
pub length_towards : (t t0 : ℕ) (from : List ℤ) (point : Point2) → length from ≡ length point.values
    → length (towards t t0 from point) ≡ length from
length_towards t t0 from point same =
    omega (arith, length-map (zip from point.values) (on_segment t t0 point.at_us), length-zip from point.values, same)
