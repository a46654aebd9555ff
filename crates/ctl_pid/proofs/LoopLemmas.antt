-- Where a number that is brought into the range on the way comes to the same as the exact formula.
use Rattle.std.proofs.Common.{◌≡◌, ℕ, suc, ◌-◌, ◌*◌, ◌<◌, ◌≤◌, ℤ, pos, negsuc, ◌≤ℤ◌, ◌*ℤ◌, inl, inr, ap, ◌∙◌, arith}
use Rattle.std.proofs.lemmas.Int.{ints, clamps, to_z-of_z}
use Rattle.std.proofs.Math.Nat.{mul-le-mul}
use Rattle.std.proofs.lemmas.Bool.{cases_lt}
use Rattle.fixed_num.specs.Micro.{IsInRange, clamped, largest, smallest}
use Rattle.fixed_num.specs.Arithmetic.{change_at, rate_of}
use Rattle.fixed_num.specs.declared.TheConstants.{MICRO, LARGEST}
use Rattle.fixed_num.proofs.ArithmeticLemmas.{clamped_in_range, within_clamped, change_no_more, floor_between}

-- what an error in the range adds up to in at most a second is in the range
pub change_in_range : (error : ℤ) (dt_us : ℕ) → IsInRange error → dt_us ≤ MICRO
    → clamped (change_at error dt_us) ≡ change_at error dt_us
change_in_range error dt_us fits short =
    clamped_in_range (change_at error dt_us) (omega (arith, ints, fits.0, fits.1, change_no_more error dt_us short))

-- ---- The derivative

-- a number at the top of the range or above it has such a rate
rate_above : (a dt_us : ℕ) → 0 < dt_us → dt_us ≤ MICRO → LARGEST ≤ a → largest ≤ℤ rate_of (pos a) dt_us
rate_above a dt_us some short past =
    let low : LARGEST * dt_us ≤ a * MICRO = mul-le-mul past short in
    let high : a * MICRO * 1 ≤ a * MICRO * dt_us = mul-le-mul (omega arith) some in
    (floor_between (pos a *ℤ pos MICRO) largest (pos (a * MICRO)) dt_us some (omega (arith, ints, low))
    (omega (arith, ints, high))).0

-- and one at its bottom or below
rate_below : (a dt_us : ℕ) → 0 < dt_us → dt_us ≤ MICRO → LARGEST ≤ suc a → rate_of (negsuc a) dt_us ≤ℤ smallest
rate_below a dt_us some short past =
    let high : LARGEST * dt_us ≤ suc a * MICRO = mul-le-mul past short in
    let low : suc a * MICRO * 1 ≤ suc (suc a * MICRO) * dt_us = mul-le-mul (omega arith) some in
    (floor_between (negsuc a *ℤ pos MICRO) (negsuc (suc a * MICRO)) smallest dt_us some (omega (arith, ints, low))
    (omega (arith, ints, high))).1

-- numbers at the top or above it, and at the bottom or below it, come to the same in the range
same_top : (x y : ℤ) → largest ≤ℤ x → largest ≤ℤ y → clamped x ≡ clamped y
unfolding clamped
same_top x y above above' = omega (arith, ints, clamps, above, above')

same_bottom : (x y : ℤ) → x ≤ℤ smallest → y ≤ℤ smallest → clamped x ≡ clamped y
unfolding clamped
same_bottom x y below below' = omega (arith, ints, clamps, below, below')

top : (a : ℕ) → LARGEST ≤ a → clamped (pos a) ≡ largest
unfolding clamped
top a past = omega (arith, ints, clamps, past)

bottom : (a : ℕ) → LARGEST ≤ suc a → clamped (negsuc a) ≡ smallest
unfolding clamped
bottom a past = omega (arith, ints, clamps, past)

-- So the derivative is exact, though a difference is brought into the range before it is divided.
pub rate_exact : (change : ℤ) (dt_us : ℕ) → 0 < dt_us → dt_us ≤ MICRO
    → clamped (rate_of (clamped change) dt_us) ≡ clamped (rate_of change dt_us)
rate_exact (pos a) dt_us some short = elim (cases_lt a LARGEST) [
  | inl small ↦ ap (λ z. clamped (rate_of z dt_us)) (clamped_in_range (pos a) (omega (arith, ints, small)))
  | inr past ↦
      ap (λ z. clamped (rate_of z dt_us)) (top a past)
      ∙ same_top (rate_of largest dt_us) (rate_of (pos a) dt_us) (rate_above LARGEST dt_us some short (omega arith))
      (rate_above a dt_us some short past)
]
rate_exact (negsuc a) dt_us some short = elim (cases_lt (suc a) LARGEST) [
  | inl small ↦ ap (λ z. clamped (rate_of z dt_us)) (clamped_in_range (negsuc a) (omega (arith, ints, small)))
  | inr past ↦
      ap (λ z. clamped (rate_of z dt_us)) (bottom a past)
      ∙ same_bottom (rate_of smallest dt_us) (rate_of (negsuc a) dt_us)
      (rate_below (LARGEST - 1) dt_us some short (omega arith)) (rate_below a dt_us some short past)
]

-- where bringing a number into the range on the way changes nothing
pub ruleset exact = (ints, to_z-of_z, within_clamped, change_in_range, rate_exact)
