-- A trajectory goes from point to point.
use Rattle.std.proofs.Common.{◌≡◌, ℕ, suc, ◌*◌, ◌-◌, ◌<◌, ◌≤◌, ℤ, pos, negsuc, ◌+ℤ◌, ◌-ℤ◌}
use Rattle.std.proofs.Common.{◌*ℤ◌, List, [], ◌∷◌, map, true, false, refl, inl, inr, arith}
use Rattle.std.specs.Prelude.{nat_le, nat_lt}
use Rattle.std.specs.List.{zip}
use Rattle.std.proofs.Math.Nat.{mul-le-mul}
use Rattle.std.proofs.lemmas.Bool.{cases_lt}
use Rattle.std.proofs.lemmas.Bool.Decides.{nat_tests}
use Rattle.std.proofs.lemmas.Int.{ints, clamps}
use Rattle.fixed_num.specs.Micro.{IsInRange, clamped}
use Rattle.fixed_num.specs.Arithmetic.{floor_div}
use Rattle.fixed_num.proofs.ArithmeticLemmas.{floor_between}
use Rattle.cm_document.specs.declared.call.Point2.{Point2}
use Rattle.cm_model.specs.Ways.{on_segment, on_way, last_point, led}
use Rattle.std.specs.List.{AllByRecursion}
use Rattle.ctl_traj.specs.Between.{GoesBetween, AreNumbers, LiesBetween, LieBetween, point_at_start}

-- a part of a way lies between nothing and the way
share_lies : (way : ℤ) (gone time : ℕ) → gone < time → LiesBetween (pos 0) way (floor_div (way *ℤ pos gone) (pos time))
share_lies (pos n) gone time part =
    let size : n * gone ≤ n * time = mul-le-mul (omega arith) (omega (arith, part)) in
    let share = floor_between (pos n *ℤ pos gone) (pos 0) (pos n) time (omega (arith, part)) (omega (arith, ints))
    (omega (arith, ints, size)) in
    record { not_below = omega (arith, ints, clamps, share.0); not_above = omega (arith, ints, clamps, share.1) }
share_lies (negsuc n) gone time part =
    let size : suc n * gone ≤ suc n * time = mul-le-mul (omega arith) (omega (arith, part)) in
    let share = floor_between (negsuc n *ℤ pos gone) (negsuc n) (pos 0) time (omega (arith, part))
    (omega (arith, ints, size)) (omega (arith, ints)) in
    record { not_below = omega (arith, ints, clamps, share.0); not_above = omega (arith, ints, clamps, share.1) }

-- a number and a part of the way from it to another lie between both
shifted_lies : (a b share : ℤ) → IsInRange a → IsInRange b → LiesBetween (pos 0) (b -ℤ a) share
    → LiesBetween a b (clamped (a +ℤ share))
unfolding clamped
shifted_lies a b share in_a in_b lies = record {
  not_below = omega (arith, ints, clamps, in_a.0, in_a.1, in_b.0, in_b.1, lies.not_below, lies.not_above);
  not_above = omega (arith, ints, clamps, in_a.0, in_a.1, in_b.0, in_b.1, lies.not_below, lies.not_above);
}

-- so does a value on its segment
segment_lies : (t t0 t1 : ℕ) (a b : ℤ) → t0 ≤ t → t < t1 → IsInRange a → IsInRange b
    → LiesBetween a b (on_segment t t0 t1 (a, b))
segment_lies t t0 t1 a b come to_come in_a in_b =
    shifted_lies a b (floor_div ((b -ℤ a) *ℤ pos (t - t0)) (pos (t1 - t0))) in_a in_b
    (share_lies (b -ℤ a) (t - t0) (t1 - t0) (omega (arith, come, to_come)))

segments_lie : (t t0 t1 : ℕ) (from to : List ℤ) → t0 ≤ t → t < t1 → AllByRecursion IsInRange from
    → AllByRecursion IsInRange to
    → LieBetween from to (map (on_segment t t0 t1) (zip from to))
segments_lie t t0 t1 [] to come to_come all all' = tt
segments_lie t t0 t1 (a ∷ from) [] come to_come all all' = tt
segments_lie t t0 t1 (a ∷ from) (b ∷ to) come to_come all all' =
    (segment_lies t t0 t1 a b come to_come all.0 all'.0, segments_lie t t0 t1 from to come to_come all.1 all'.1)

-- a way between two of some points is one between two of more
one_more : (t : ℕ) (p : Point2) (points : List Point2) (outs : List ℤ) → GoesBetween t points outs
    → GoesBetween t (p ∷ points) outs
one_more t p [] outs goes = absurd goes.follow
one_more t p (q ∷ qs) outs goes = record {
  last = goes.last;
  next = goes.next;
  follow = inr goes.follow;
  come = goes.come;
  to_come = goes.to_come;
  between = goes.between;
}

-- where the next point is to come it goes towards that
towards_next : (t : ℕ) (p q : Point2) (qs : List Point2) → p.at_us ≤ t → AreNumbers (p ∷ q ∷ qs) → t < q.at_us
    → GoesBetween t (p ∷ q ∷ qs) (on_way t p.at_us p.values (q ∷ qs))
towards_next t p q qs come numbers ahead =
    let test : nat_lt t q.at_us ≡ true = grind (arith, nat_tests) in
    rw test (record {
      last = p;
      next = q;
      follow = inl (refl, refl);
      come = come;
      to_come = ahead;
      between = segments_lie t p.at_us q.at_us p.values q.values come ahead numbers.0 numbers.1.0;
    })

-- where it has come it goes on from there
on_from_next : (t : ℕ) (p q : Point2) (qs : List Point2) → q.at_us ≤ t
    → GoesBetween t (q ∷ qs) (on_way t q.at_us q.values qs)
    → GoesBetween t (p ∷ q ∷ qs) (on_way t p.at_us p.values (q ∷ qs))
on_from_next t p q qs past goes =
    let test : nat_lt t q.at_us ≡ false = grind (arith, nat_tests) in
    rw test (one_more t p (q ∷ qs) (on_way t q.at_us q.values qs) goes)

-- on the way from p through the others it goes between two of them
way_goes_between : (t : ℕ) (p q : Point2) (qs : List Point2) → p.at_us ≤ t → AreNumbers (p ∷ q ∷ qs)
    → t < (last_point q qs).at_us
    → GoesBetween t (p ∷ q ∷ qs) (on_way t p.at_us p.values (q ∷ qs))
way_goes_between t p q [] come numbers to_come = towards_next t p q [] come numbers to_come
way_goes_between t p q (r ∷ rs) come numbers to_come = elim (cases_lt t q.at_us) [
  | inl ahead ↦ towards_next t p q (r ∷ rs) come numbers ahead
  | inr past ↦ on_from_next t p q (r ∷ rs) past (way_goes_between t q r rs past numbers.1 to_come)
]

-- before the last point's time what is led goes between two points
pub led_goes_between : (t : ℕ) (hold from : List ℤ) (p : Point2) (ps : List Point2)
    → AreNumbers (point_at_start from ∷ p ∷ ps) → t < (last_point p ps).at_us
    → GoesBetween t (point_at_start from ∷ p ∷ ps) (led t hold from (p ∷ ps))
led_goes_between t hold from p ps numbers ahead =
    let under : nat_le (last_point p ps).at_us t ≡ false = grind (arith, nat_tests) in
    rw under (way_goes_between t (point_at_start from) p ps (omega arith) numbers ahead)

-- and from then on it is at the last point
pub led_ends : (t : ℕ) (hold from : List ℤ) (p : Point2) (ps : List Point2) → (last_point p ps).at_us ≤ t
    → led t hold from (p ∷ ps) ≡ (last_point p ps).values
led_ends t hold from p ps past =
    let over : nat_le (last_point p ps).at_us t ≡ true = grind (arith, nat_tests) in
    rw over refl
