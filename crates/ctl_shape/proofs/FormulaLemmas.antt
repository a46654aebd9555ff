-- The longest step whose way to stop has room, in constant time.
use Rattle.std.proofs.Common.{◌≡◌, ℕ, zero, suc, ◌+◌, ◌-◌, ◌*◌, ◌/◌, ◌<◌, ◌≤◌, ℤ, pos}
use Rattle.std.proofs.Common.{negsuc, ◌*ℤ◌, ◌≤ℤ◌, nat_abs, refl, ap, inl, inr, arith}
use Rattle.std.proofs.lemmas.Bool.{cases_lt}
use Rattle.std.proofs.Math.Nat.{mul-le-mul, lt_of_mul-lt-mul_right, div-mul-le_self, lt-div-mul-add}
use Rattle.std.proofs.lemmas.Nat.{le-div}
use Rattle.std.proofs.lemmas.Int.{ints}
use Rattle.fixed_num.specs.Arithmetic.{floor_div}
use Rattle.cm_model.specs.Limiters.{way_after}
use Rattle.ctl_shape.specs.Calls.Steps.{IsLongest}
use Rattle.ctl_shape.proofs.WayLemmas.{way_is, way_more}

-- ---- The number of whole changes, from a square root

pub root_fits : (count root : ℕ) → root * root ≤ 4 * count + 1 → (root - 1) / 2 * ((root - 1) / 2 + 1) ≤ count
root_fits count zero square = omega arith
root_fits count (suc r) square =
    let q = (suc r - 1) / 2 in
    let half : q * 2 ≤ suc r - 1 = div-mul-le_self (suc r - 1) 2 in
    let squares : (q * 2 + 1) * (q * 2 + 1) ≤ suc r * suc r = mul-le-mul (omega (arith, half)) (omega (arith, half)) in
    omega (arith, square, squares)

pub root_most : (count root : ℕ) → 4 * count + 1 < (root + 1) * (root + 1)
    → count < ((root - 1) / 2 + 1) * ((root - 1) / 2 + 2)
root_most count root square =
    let q = (root - 1) / 2 in
    let half : root - 1 < q * 2 + 2 = lt-div-mul-add {a = root - 1} {b = 2} (omega arith) in
    let squares : (root + 1) * (root + 1) ≤ (q * 2 + 3) * (q * 2 + 3) =
    mul-le-mul (omega (arith, half)) (omega (arith, half)) in
    omega (arith, square, squares)

-- ---- The longest step

-- where q is how many whole changes it has
pub record Parts (room change q : ℕ) : Type 0 where
  pub some : 0 < change
  pub fits : change * (q * (q + 1)) ≤ 2 * room
  pub no_more : 2 * room < change * ((q + 1) * (q + 2))

abbrev pub longest_of : ℕ → ℕ → ℕ → ℕ
longest_of room change q = (2 * room + change * (q * (q + 1))) / (2 * (q + 1))

pub parts_of : (room change q : ℕ) → 0 < change → q * (q + 1) ≤ 2 * room / change
    → 2 * room / change < (q + 1) * (q + 2) → Parts room change q
parts_of room change q some fits no_more =
    let whole : 2 * room / change * change ≤ 2 * room = div-mul-le_self (2 * room) change in
    let part : 2 * room < 2 * room / change * change + change = lt-div-mul-add some in
    let low : q * (q + 1) * change ≤ 2 * room / change * change = mul-le-mul fits (omega arith) in
    let high : (2 * room / change + 1) * change ≤ (q + 1) * (q + 2) * change =
    mul-le-mul (omega (arith, no_more)) (omega arith) in
    record { some = some; fits = omega (arith, whole, low); no_more = omega (arith, part, high) }

-- it has q whole changes
at_least : (room change q : ℕ) → Parts room change q → q * change ≤ longest_of room change q
at_least room change q parts =
    le-div (q * change) (2 * room + change * (q * (q + 1))) (2 * (q + 1)) (omega arith) (omega (arith, parts.fits))

-- and no more
at_most : (room change q : ℕ) → Parts room change q → suc (longest_of room change q) ≤ suc q * change
at_most room change q parts =
    let whole : longest_of room change q * (2 * (q + 1)) ≤ 2 * room + change * (q * (q + 1)) =
    div-mul-le_self _ (2 * (q + 1)) in
    let less : longest_of room change q * (2 * (q + 1)) < suc q * change * (2 * (q + 1)) =
    omega (arith, whole, parts.no_more) in
    let short = lt_of_mul-lt-mul_right (2 * (q + 1)) less in
    omega (arith, short)

pub longest_fits : (room change q : ℕ) → Parts room change q
    → longest_of room change q + way_after change (longest_of room change q) ≤ room
longest_fits room change q parts =
    let s = longest_of room change q in
    let low = at_least room change q parts in
    let high = at_most room change q parts in
    let way = way_is change q s parts.some low (omega (arith, high)) in
    let whole : s * (2 * (q + 1)) ≤ 2 * room + change * (q * (q + 1)) = div-mul-le_self _ (2 * (q + 1)) in
    omega (arith, way, whole)

pub none_longer : (room change q : ℕ) → Parts room change q
    → room < (longest_of room change q + 1) + way_after change (longest_of room change q + 1)
none_longer room change q parts =
    let s = longest_of room change q in
    let low = at_least room change q parts in
    let high = at_most room change q parts in
    let way = way_is change q (s + 1) parts.some (omega (arith, low)) (omega (arith, high)) in
    let part : 2 * room + change * (q * (q + 1)) < s * (2 * (q + 1)) + 2 * (q + 1) = lt-div-mul-add (omega arith) in
    omega (arith, way, part)

-- the same from the number of changes that the room has
pub product_fits : (room change q : ℕ) → 0 < change → q * (q + 1) ≤ 2 * room / change
    → change * (q * (q + 1)) ≤ 2 * room
product_fits room change q some fits =
    let whole : 2 * room / change * change ≤ 2 * room = div-mul-le_self (2 * room) change in
    let low : q * (q + 1) * change ≤ 2 * room / change * change = mul-le-mul fits (omega arith) in
    omega (arith, whole, low)

pub longest_step_fits : (room change q : ℕ) → 0 < change → q * (q + 1) ≤ 2 * room / change
    → 2 * room / change < (q + 1) * (q + 2)
    → (2 * room + change * (q * (q + 1))) / (2 * (q + 1))
    + way_after change ((2 * room + change * (q * (q + 1))) / (2 * (q + 1))) ≤ room
longest_step_fits room change q some fits no_more =
    longest_fits room change q (parts_of room change q some fits no_more)

pub no_step_longer : (room change q : ℕ) → 0 < change → q * (q + 1) ≤ 2 * room / change
    → 2 * room / change < (q + 1) * (q + 2)
    → room < ((2 * room + change * (q * (q + 1))) / (2 * (q + 1)) + 1)
    + way_after change ((2 * room + change * (q * (q + 1))) / (2 * (q + 1)) + 1)
no_step_longer room change q some fits no_more = none_longer room change q (parts_of room change q some fits no_more)

-- ---- Whether the way of a step has room

pub whole_changes : (step change : ℕ) → step / change * change ≤ step
whole_changes step change = div-mul-le_self step change

-- a step with its way, doubled, is one product
pub way_doubled : (step change : ℕ) → 0 < change
    → (step / change + 1) * (2 * step - step / change * change) ≡ 2 * (step + way_after change step)
way_doubled step change some =
    let q = step / change in
    let whole : q * change ≤ step = div-mul-le_self step change in
    let part : step < q * change + change = lt-div-mul-add some in
    let d = 2 * step - q * change in
    let d_is : d + q * change ≡ 2 * step = omega (arith, whole) in
    let way = way_is change q step some whole (omega (arith, part)) in
    let products = ap (λ k. (q + 1) * k) d_is in
    omega (arith, way, products)

-- a step whose way has room is the longest up to it
pub this_is_longest : (change room step : ℕ) → 2 * (step + way_after change step) ≤ 2 * room
    → IsLongest change room step step
this_is_longest change room step fits = record {
  fits = omega (arith, fits);
  no_more = omega arith;
  no_farther = λ less. absurd (omega (arith, less));
}

-- and else the longest of all is shorter
pub shorter_is_longest : (change room step longest : ℕ) → 0 < change → 2 * room < 2 * (step + way_after change step)
    → longest + way_after change longest ≤ room
    → room < (longest + 1) + way_after change (longest + 1) → IsLongest change room step longest
shorter_is_longest change room step longest some far fits no_farther = record {
  fits = fits;
  no_more = elim (cases_lt step longest) [
    | inl less ↦
        let way = way_more change step longest some (omega (arith, less)) in
        absurd (omega (arith, way, less, far, fits))
    | inr no_more ↦ no_more
  ];
  no_farther = λ less. no_farther;
}

-- ---- What a rate comes to

pub comes_to : (rate : ℤ) (time unit : ℕ) → pos 0 ≤ℤ rate
    → nat_abs rate * time / unit ≡ nat_abs (floor_div (rate *ℤ pos time) (pos unit))
unfolding floor_div
comes_to (pos n) time unit some = refl
comes_to (negsuc n) time unit some = absurd (omega (arith, ints, some))
