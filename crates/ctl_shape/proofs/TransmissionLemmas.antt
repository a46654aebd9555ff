-- What a round trip through a transmission takes.
use Rattle.std.proofs.Common.{◌≡◌, ℕ, zero, suc, ◌*◌, ◌<◌, ◌≤◌, ℤ, pos, negsuc, ◌+ℤ◌}
use Rattle.std.proofs.Common.{◌-ℤ◌, ◌*ℤ◌, ◌<ℤ◌, ◌≤ℤ◌, neg_ℤ, nat_abs, ap, ◌∙◌, arith}
use Rattle.std.proofs.lemmas.Int.{ints, clamps, to_z-of_z}
use Rattle.fixed_num.specs.Micro.{IsInRange, clamped}
use Rattle.fixed_num.specs.Arithmetic.{IsWithin, floor_div}
use Rattle.fixed_num.specs.declared.TheConstants.{MICRO, LARGEST}
use Rattle.fixed_num.proofs.ArithmeticLemmas.{floor_is_greatest, floor_between, floor_within, product_within}
use Rattle.iface_names.specs.declared.kind.Kind.{Kind}
use Rattle.iface_names.specs.declared.kind.Kind.TheVariants.{Position, Velocity, Effort}
use Rattle.cm_model.specs.Transmissions.{Gear, Pair, IsMotion, IsPair, quotient}
use Rattle.cm_model.specs.Transmissions.{divided, less_offset, with_offset, told, had}
use Rattle.ctl_shape.specs.RoundTrips.{NothingClamps, NothingClampsInBoth, IsFromTo, LosesLittle}
use Rattle.ctl_shape.specs.RoundTrips.{grain, offset_of, product, own, lost, both_lost}

-- ---- Products

-- a sum so many times
distribute : (x y : ℤ) (k : ℕ) → (x +ℤ y) *ℤ pos k ≡ (x *ℤ pos k) +ℤ (y *ℤ pos k)
distribute x y zero = omega (arith, ints)
distribute x y (suc k) = omega (arith, ints, distribute x y k)

-- ---- The way there and back

-- a number times a reduction and back, each rounded down
floor_trip : (k : ℕ) (x : ℤ) → 0 < k → IsFromTo (pos 0) (grain (pos k)) (x -ℤ quotient (pos k) (product (pos k) x))
floor_trip k x some =
    let q = product (pos k) x in
    let there = floor_is_greatest (pos k *ℤ x) (pos MICRO) (omega (arith, ints)) in
    let g = floor_div (neg_ℤ (pos MICRO)) (pos k) in
    let small = floor_is_greatest (neg_ℤ (pos MICRO)) (pos k) (omega (arith, ints)) in
    let one_more = distribute q (pos 1) MICRO in
    let parts = distribute x g k in
    let least : ((x +ℤ g) *ℤ pos k) ≤ℤ (q *ℤ pos MICRO) =
    omega (arith, ints, there.greatest, small.not_above, one_more, parts) in
    let most : (q *ℤ pos MICRO) ≤ℤ (x *ℤ pos k) = omega (arith, ints, there.not_above) in
    let between = floor_between (q *ℤ pos MICRO) (x +ℤ g) x k some least most in
    (omega (arith, ints, between.1), omega (arith, ints, between.0))

-- for any reduction above 0
trip : (reduction x : ℤ) → pos 0 <ℤ reduction
    → IsFromTo (pos 0) (grain reduction) (x -ℤ quotient reduction (product reduction x))
trip (pos k) x some = floor_trip k x (omega (arith, ints, some))
trip (negsuc k) x some = absurd (omega (arith, ints, some))

-- ---- Simple transmissions

-- a number of the range is the nearest one to itself
keeps : (n : ℤ) → IsInRange n → clamped n ≡ n
unfolding clamped
keeps n fits = omega (arith, ints, clamps, fits.0, fits.1)

less_nothing : (r : ℤ) → r ≡ r -ℤ pos 0
less_nothing r = omega (arith, ints)

and_nothing : (r : ℤ) → r ≡ r +ℤ pos 0
and_nothing r = omega (arith, ints)

-- what the actuator is told is the product with the joint's own value
told_is : (kind : Kind) (reduction offset r : ℤ) → IsMotion kind → IsInRange (own kind offset r)
    → IsInRange (product reduction (own kind offset r))
    → told kind reduction offset r ≡ product reduction (own kind offset r)
told_is Position reduction offset r motion fits fits' =
    ap (λ x. clamped (product reduction x)) (keeps (r -ℤ offset) fits) ∙ keeps _ fits'
told_is Velocity reduction offset r motion fits fits' =
    ap (λ x. clamped (product reduction x)) (less_nothing r) ∙ keeps _ fits'
told_is Effort reduction offset r motion fits fits' = cc

-- what the joint has is the quotient and the offset
had_is : (kind : Kind) (reduction offset u : ℤ) → IsMotion kind
    → IsInRange (quotient reduction u +ℤ offset_of kind offset)
    → had kind reduction offset u ≡ quotient reduction u +ℤ offset_of kind offset
had_is Position reduction offset u motion fits = keeps _ fits
had_is Velocity reduction offset u motion fits = ap clamped (and_nothing (quotient reduction u)) ∙ keeps _ fits
had_is Effort reduction offset u motion fits = cc

pub simple_trip : (gear : Gear) (r : ℤ) → IsMotion gear.kind → pos 0 <ℤ gear.reduction → NothingClamps gear r
    → IsFromTo (pos 0) (grain gear.reduction) (lost gear r)
simple_trip gear r motion some fits =
    let there = told_is gear.kind gear.reduction gear.offset r motion fits.less_offset fits.at_actuator in
    let u = told gear.kind gear.reduction gear.offset r in
    let off = offset_of gear.kind gear.offset in
    let back = had_is gear.kind gear.reduction gear.offset u motion fits.back_at_joint
    ∙ ap (λ z. quotient gear.reduction z +ℤ off) there in
    let little = trip gear.reduction (own gear.kind gear.offset r) some in
    (omega (arith, ints, back, little.0), omega (arith, ints, back, little.1))

-- ---- Differentials

-- a joint's value less its offset, exactly
own_is : (kind : Kind) (offset r : ℤ) → IsMotion kind → IsInRange (own kind offset r)
    → less_offset kind offset r ≡ own kind offset r
own_is Position offset r motion fits = keeps _ fits
own_is Velocity offset r motion fits = less_nothing r
own_is Effort offset r motion fits = cc

with_is : (kind : Kind) (offset n : ℤ) → IsMotion kind → IsInRange (n +ℤ offset_of kind offset)
    → with_offset kind offset n ≡ n +ℤ offset_of kind offset
with_is Position offset n motion fits = keeps _ fits
with_is Velocity offset n motion fits = ap clamped (and_nothing n) ∙ keeps _ fits
with_is Effort offset n motion fits = cc

-- two numbers that come back less by what two grains allow, from their sum and difference
pub halves : (s d b1 b2 c1 c2 : ℤ) → IsFromTo (pos 0) c1 ((s +ℤ d) -ℤ b1) → IsFromTo (pos 0) c2 ((s -ℤ d) -ℤ b2)
    → LosesLittle (c1, c2) (s -ℤ floor_div (b1 +ℤ b2) (pos 2), d -ℤ floor_div (b1 -ℤ b2) (pos 2))
halves s d b1 b2 c1 c2 first second =
    let some : pos 0 <ℤ pos 2 = omega (arith, ints) in
    let sum = floor_is_greatest (b1 +ℤ b2) (pos 2) some in
    let gap = floor_is_greatest (b1 -ℤ b2) (pos 2) some in
    let both = floor_is_greatest (neg_ℤ (c1 +ℤ c2)) (pos 2) some in
    let one = floor_is_greatest (neg_ℤ c1) (pos 2) some in
    let two = floor_is_greatest c2 (pos 2) some in
    record {
      first = (
        omega (arith, ints, first.0, second.0, sum.not_above),
        omega (arith, ints, first.1, second.1, sum.greatest, both.not_above),
      );
      second = (
        omega (arith, ints, first.0, second.1, gap.not_above, two.greatest),
        omega (arith, ints, first.1, second.0, gap.greatest, one.not_above),
      );
    }

pub pair_trip : (pair : Pair) (j : ℤ × ℤ) → IsPair pair → NothingClampsInBoth pair j
    → LosesLittle (grain pair.reductions.0, grain pair.reductions.1) (both_lost pair j)
pair_trip pair j sound fits =
    let kind = pair.kind in
    let s = own kind pair.offsets.0 j.0 in
    let d = own kind pair.offsets.1 j.1 in
    let s_is = own_is kind pair.offsets.0 j.0 sound.motion fits.first in
    let d_is = own_is kind pair.offsets.1 j.1 sound.motion fits.second in
    let s' = less_offset kind pair.offsets.0 j.0 in
    let d' = less_offset kind pair.offsets.1 j.1 in
    let sum_is : clamped (s' +ℤ d') ≡ s +ℤ d =
    ap (λ x. clamped (x +ℤ d')) s_is ∙ ap (λ x. clamped (s +ℤ x)) d_is ∙ keeps _ fits.sum in
    let gap_is : clamped (s' -ℤ d') ≡ s -ℤ d =
    ap (λ x. clamped (x -ℤ d')) s_is ∙ ap (λ x. clamped (s -ℤ x)) d_is ∙ keeps _ fits.difference in
    let r1 = pair.reductions.0 in
    let r2 = pair.reductions.1 in
    let u1 = clamped (product r1 (clamped (s' +ℤ d'))) in
    let u2 = clamped (product r2 (clamped (s' -ℤ d'))) in
    let u1_is : u1 ≡ product r1 (s +ℤ d) = ap (λ x. clamped (product r1 x)) sum_is ∙ keeps _ fits.told_first in
    let u2_is : u2 ≡ product r2 (s -ℤ d) = ap (λ x. clamped (product r2 x)) gap_is ∙ keeps _ fits.told_second in
    let b1_is : divided r1 u1 ≡ quotient r1 u1 = keeps _ fits.back_first in
    let b2_is : divided r2 u2 ≡ quotient r2 u2 = keeps _ fits.back_second in
    let little = halves s d (quotient r1 u1) (quotient r2 u2) (grain r1) (grain r2)
    (rw u1_is (trip r1 (s +ℤ d) sound.first)) (rw u2_is (trip r2 (s -ℤ d) sound.second)) in
    let first_is = ap (λ b. with_offset kind pair.offsets.0 (floor_div (b +ℤ divided r2 u2) (pos 2))) b1_is
    ∙ ap (λ b. with_offset kind pair.offsets.0 (floor_div (quotient r1 u1 +ℤ b) (pos 2))) b2_is
    ∙ with_is kind pair.offsets.0 _ sound.motion fits.had_first in
    let second_is = ap (λ b. with_offset kind pair.offsets.1 (floor_div (b -ℤ divided r2 u2) (pos 2))) b1_is
    ∙ ap (λ b. with_offset kind pair.offsets.1 (floor_div (quotient r1 u1 -ℤ b) (pos 2))) b2_is
    ∙ with_is kind pair.offsets.1 _ sound.motion fits.had_second in
    record {
      first = (omega (arith, ints, first_is, little.first.0), omega (arith, ints, first_is, little.first.1));
      second = (omega (arith, ints, second_is, little.second.0), omega (arith, ints, second_is, little.second.1));
    }

-- ---- Sizes

-- the quotient of a number of the range is no larger than its product with a million
pub quotient_small : (u reduction : ℤ) → pos 0 <ℤ reduction → nat_abs u ≤ LARGEST
    → nat_abs (quotient reduction u) ≤ LARGEST * MICRO
quotient_small u (pos k) some small =
    let near : IsWithin (pos LARGEST) u = (omega (arith, ints, small), omega (arith, ints, small)) in
    let product = product_within u LARGEST MICRO MICRO near (omega arith) in
    let more : LARGEST * MICRO ≤ LARGEST * MICRO * k = omega (arith, ints, some) in
    let within =
    floor_within (u *ℤ pos MICRO) (LARGEST * MICRO) k (omega (arith, ints, some))
    (omega (arith, ints, product.0, more), omega (arith, ints, product.1, more)) in
    omega (arith, ints, within.0, within.1)
quotient_small u (negsuc k) some small = absurd (omega (arith, ints, some))

-- and the half of a number is no larger than the number
pub half_no_more : (z : ℤ) → nat_abs (floor_div z (pos 2)) ≤ nat_abs z
half_no_more z =
    let near : IsWithin (pos (nat_abs z * 2)) z = (omega (arith, ints), omega (arith, ints)) in
    let within = floor_within z (nat_abs z) 2 (omega arith) near in
    omega (arith, ints, within.0, within.1)

pub ruleset sizes = (ints, to_z-of_z, quotient_small)
