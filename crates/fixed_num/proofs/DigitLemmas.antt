-- Digits at the front of a text, and the number that digits write.
use Rattle.std.proofs.Common.{◌≡◌, ℕ, suc, ◌+◌, ◌-◌, ◌*◌, ◌^◌, ◌<◌, ◌≤◌, true, List, [], ◌∷◌}
use Rattle.std.proofs.Common.{length, get_or, take, refl, sym, ap, ◌∙◌, inl, inr, arith}
use Rattle.std.specs.List.{prefix_len}
use Rattle.std.specs.Char.{is_ascii_digit, digit_value}
use Rattle.std.specs.Str.{all_ascii_digits}
use Rattle.std.specs.Str.Parse.{digits_value}
use Rattle.std.proofs.lemmas.Bool.{cases_Bool, and_from}
use Rattle.std.proofs.lemmas.Bool.Decides.{nat_tests}
use Rattle.std.proofs.lemmas.Int.Digits.{digits_value_more, digits_value-lt}
use Rattle.std.proofs.lemmas.Nat.{pow-add}
use Rattle.std.proofs.Math.Nat.{mul-lt-mul_of_pos_right, one-le-pow}
use Rattle.std.proofs.lemmas.Str.Parse.{IsNumeralModel, numerals_by_value}
use Rattle.std.proofs.lemmas.Str.Parse.{tells_all_ascii_digits, digit_at, digits_value_short}

-- texts of digits and the number they write
pub own : IsNumeralModel (λ ds. all_ascii_digits ds ≡ true) (digits_value 10)
own = numerals_by_value _ tells_all_ascii_digits

-- the digits at the front are digits
pub front_digits_all : (text : List ℕ) → all_ascii_digits (take (prefix_len is_ascii_digit text) text) ≡ true
front_digits_all [] = refl
front_digits_all (b ∷ bs) = elim (cases_Bool (is_ascii_digit b)) [
  | inl e ↦ let one : 1 + prefix_len is_ascii_digit bs ≡ suc (prefix_len is_ascii_digit bs) = omega arith in
      rw (e, one) (and_from _ _ e (front_digits_all bs))
  | inr e ↦ rw e refl
]

-- one more digit, ten times the number before it and the digit; from the bound on, the bound stands for the number
pub number_more : (ds : List ℕ) (i : ℕ) → all_ascii_digits ds ≡ true → i < length ds
    → digits_value 10 (take (i + 1) ds) ≡ digits_value 10 (take i ds) * 10 + (get_or ds i 0 - 48)
number_more ds i h l = let d = digit_at ds i (own.to ds h) l in
    let e : digit_value (get_or ds i 0) ≡ get_or ds i 0 - 48 = grind (arith, nat_tests) in
    digits_value_more 10 ds i l ∙ ap (λ d. digits_value 10 (take i ds) * 10 + d) e

-- each byte of digits is one
pub is_digit : (ds : List ℕ) (i : ℕ) → all_ascii_digits ds ≡ true → i < length ds
    → (48 ≤ get_or ds i 0) × (get_or ds i 0 ≤ 57)
is_digit ds i h l = digit_at ds i (own.to ds h) l

-- six decimals at most are less than a unit
pub decimals_below_unit : (ds : List ℕ) → all_ascii_digits ds ≡ true → length ds ≤ 6
    → digits_value 10 ds * 10 ^ (6 - length ds) < 1000000
decimals_below_unit ds h short =
    let j = 6 - length ds in
    let six : length ds + j ≡ 6 = omega arith in
    let below = mul-lt-mul_of_pos_right {k = 10 ^ j} (digits_value-lt 10 ds (own.to ds h))
    (one-le-pow j 10 (omega arith)) in
    let same : 10 ^ length ds * 10 ^ j ≡ 1000000 = sym (pow-add 10 (length ds) j) ∙ ap (λ k. 10 ^ k) six in
    rw (← same) below

-- and so are their digits alone
pub six_digits_below : (ds : List ℕ) → all_ascii_digits ds ≡ true → length ds ≤ 6 → digits_value 10 ds < 1000000
six_digits_below ds h short = digits_value_short own ds 6 h short
