-- Division rounds down, and so what a rate adds up to is no more than the rate, and the rate of a change that a rate
-- made no more than that.
use Rattle.std.proofs.Common.{ℤ, pos, ◌<◌, ◌≤◌, negsuc, ◌<ℤ◌, ◌≤ℤ◌, ◌+ℤ◌, ◌*ℤ◌, neg_ℤ}
use Rattle.std.proofs.Common.{nat_abs, ℕ, zero, suc, ◌≡◌, ap, ◌∙◌, ◌*◌, ◌/◌, refl, arith}
use Rattle.std.specs.Int.{int_div_euclid}
use Rattle.std.proofs.lemmas.Int.{ints, clamps}
use Rattle.std.proofs.Math.Nat.{div-le_of_le-mul, mul-pos, mul_comm, div-lt_iff_lt-mul, div-mul-le_self, mul-le-mul}
use Rattle.std.proofs.lemmas.Nat.{le-div}
use Rattle.fixed_num.specs.Micro.{clamped, largest}
use Rattle.fixed_num.specs.Arithmetic.{IsFloor, IsWithin, floor_div, within, change_at, rate_of}
use Rattle.fixed_num.specs.declared.TheConstants.{MICRO}

-- one above -(q + 1) is -q
above_negative : (q : ℕ) → negsuc q +ℤ pos 1 ≡ neg_ℤ (pos q)
above_negative zero = omega (arith, ints)
above_negative (suc q) = omega (arith, ints)

-- and so its k-fold
fold_above_negative : (q k : ℕ) → (negsuc q +ℤ pos 1) *ℤ pos k ≡ neg_ℤ (pos (q * k))
fold_above_negative zero k = ap (λ z. z *ℤ pos k) (above_negative zero) ∙ omega (arith, ints)
fold_above_negative (suc q) k = ap (λ z. z *ℤ pos k) (above_negative (suc q))

-- the Euclidean quotient by a positive divisor, by the sign of what is divided
quotient_is_floor : (z d : ℤ) → pos 0 <ℤ d → IsFloor z d (int_div_euclid z d)
quotient_is_floor (pos a) (pos k) h = record { not_above = omega (arith, ints); greatest = omega (arith, ints) }
quotient_is_floor (negsuc a) (pos k) h =
    record { not_above = omega (arith, ints); greatest = rw (fold_above_negative (a / k) k) (omega (arith, ints)) }
quotient_is_floor z (negsuc k) h = record { not_above = omega (arith, ints); greatest = omega (arith, ints) }

-- floor_div rounds down
pub floor_is_greatest : (z d : ℤ) → pos 0 <ℤ d → IsFloor z d (floor_div z d)
unfolding floor_div
floor_is_greatest z d h = quotient_is_floor z d h

-- a quotient rounded down is at most a number whose multiple is not below what is divided, by their signs
quotient_at_most : (z high : ℤ) (k : ℕ) → 0 < k → z ≤ℤ (high *ℤ pos k) → int_div_euclid z (pos k) ≤ℤ high
quotient_at_most (pos a) (pos h) k some le =
    let fits : a ≤ h * k = omega (arith, ints) in
    let q : a / k ≤ h = div-le_of_le-mul k (rw (mul_comm k h) fits) in
    omega (arith, ints)
quotient_at_most (pos a) (negsuc h) k some le =
    let multiple : 0 < suc h * k = mul-pos (omega arith) some in
    absurd (omega (arith, ints))
quotient_at_most (negsuc a) (pos h) k some le = omega (arith, ints)
quotient_at_most (negsuc a) (negsuc h) k some le =
    let fits : h * k ≤ a = omega (arith, ints) in
    let q : h ≤ a / k = le-div h a k some fits in
    omega (arith, ints)

-- and at least a number whose multiple is not above it
quotient_at_least : (z low : ℤ) (k : ℕ) → 0 < k → (low *ℤ pos k) ≤ℤ z → low ≤ℤ int_div_euclid z (pos k)
quotient_at_least (pos a) (pos h) k some le =
    let fits : h * k ≤ a = omega (arith, ints) in
    let q : h ≤ a / k = le-div h a k some fits in
    omega (arith, ints)
quotient_at_least (pos a) (negsuc h) k some le = omega (arith, ints)
quotient_at_least (negsuc a) (pos h) k some le = absurd (omega (arith, ints))
quotient_at_least (negsuc a) (negsuc h) k some le =
    let fits : a < suc h * k = omega (arith, ints) in
    let q : a / k < suc h = (div-lt_iff_lt-mul some).1 fits in
    omega (arith, ints)

-- a quotient rounded down lies between two numbers where what is divided lies between their multiples
pub floor_between : (z low high : ℤ) (k : ℕ) → 0 < k → (low *ℤ pos k) ≤ℤ z → z ≤ℤ (high *ℤ pos k)
    → (low ≤ℤ floor_div z (pos k)) × (floor_div z (pos k) ≤ℤ high)
unfolding floor_div
floor_between z low high k some least most = (quotient_at_least z low k some least, quotient_at_most z high k some most)

-- ---- Numbers within a limit

-- the sign of a multiple
negative_multiple : (m k : ℕ) → neg_ℤ (pos m) *ℤ pos k ≡ neg_ℤ (pos (m * k))
negative_multiple zero k = omega (arith, ints)
negative_multiple (suc m) k = refl

-- a number within a limit, so many times, is within the limit as many times or more
pub product_within : (z : ℤ) (m a b : ℕ) → IsWithin (pos m) z → a ≤ b → IsWithin (pos (m * b)) (z *ℤ pos a)
product_within (pos r) m a b near more =
    let size : r * a ≤ m * b = mul-le-mul (omega (arith, ints, near.1)) more in
    (omega (arith, ints), omega (arith, ints))
product_within (negsuc r) m a b near more =
    let size : suc r * a ≤ m * b = mul-le-mul (omega (arith, ints, near.0)) more in
    (omega (arith, ints), omega (arith, ints))

-- and so is its quotient within the quotient
pub floor_within : (z : ℤ) (m k : ℕ) → 0 < k → IsWithin (pos (m * k)) z → IsWithin (pos m) (floor_div z (pos k))
floor_within z m k some near = floor_between z (neg_ℤ (pos m)) (pos m) k some (rw (negative_multiple m k) near.0) near.1

-- what a rate within a limit adds up to in at most a second is within the limit
pub change_within : (rate : ℤ) (m dt_us : ℕ) → IsWithin (pos m) rate → dt_us ≤ MICRO
    → IsWithin (pos m) (change_at rate dt_us)
change_within rate m dt_us near short =
    floor_within (rate *ℤ pos dt_us) m MICRO (omega arith) (product_within rate m dt_us MICRO near short)

-- so in at most a second no rate adds up to more than itself
pub change_no_more : (rate : ℤ) (dt_us : ℕ) → dt_us ≤ MICRO → nat_abs (change_at rate dt_us) ≤ nat_abs rate
change_no_more rate dt_us short =
    let near : IsWithin (pos (nat_abs rate)) rate = (omega (arith, ints), omega (arith, ints)) in
    let change = change_within rate (nat_abs rate) dt_us near short in
    omega (arith, ints, change.0, change.1)

-- and a rate that is not negative to nothing negative
pub change_not_negative : (rate : ℤ) (dt_us : ℕ) → pos 0 ≤ℤ rate → pos 0 ≤ℤ change_at rate dt_us
unfolding floor_div
change_not_negative (pos r) dt_us h = omega (arith, ints)
change_not_negative (negsuc r) dt_us h = absurd (omega (arith, ints))

-- a change within what a rate adds up to was made at no more than this rate
pub rate_within : (change : ℤ) (m dt_us : ℕ) → 0 < dt_us → IsWithin (change_at (pos m) dt_us) change
    → IsWithin (pos m) (rate_of change dt_us)
unfolding floor_div
rate_within change m dt_us some near =
    let whole : m * dt_us / MICRO * MICRO ≤ m * dt_us = div-mul-le_self (m * dt_us) MICRO in
    let product = product_within change (m * dt_us / MICRO) MICRO MICRO near (omega arith) in
    floor_within (change *ℤ pos MICRO) m dt_us some (omega (arith, ints, product.0), omega (arith, ints, product.1))

-- what is brought within a limit is within it
pub limit_holds : (limit z : ℤ) → pos 0 ≤ℤ limit → IsWithin limit (within limit z)
unfolding within
limit_holds limit z some = (omega (arith, ints, clamps), omega (arith, ints, clamps))

-- a number in the range is the nearest one to itself
pub clamped_in_range : (n : ℤ) → nat_abs n ≤ 1000000000000000 → clamped n ≡ n
unfolding clamped
clamped_in_range n small = omega (arith, ints, clamps)

-- a limit in the range leaves nothing of it out
pub within_clamped : (limit n : ℤ) → pos 0 ≤ℤ limit → limit ≤ℤ largest → within limit (clamped n) ≡ within limit n
unfolding clamped within
within_clamped limit n some small = omega (arith, ints, clamps)
