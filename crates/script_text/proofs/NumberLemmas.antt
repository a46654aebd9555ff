-- Whole numbers of up to nine digits.
use Rattle.std.proofs.Common.{◌≡◌, ℕ, ◌+◌, ◌-◌, ◌*◌, ◌<◌, ◌≤◌, true, List, length, get_or, take, ap, ◌∙◌, arith, rules}
use Rattle.std.specs.List.{list_all}
use Rattle.std.specs.Char.{is_ascii_digit, digit_value}
use Rattle.std.specs.Str.Parse.{digits_value}
use Rattle.std.proofs.lemmas.Bool.Decides.{nat_tests}
use Rattle.std.proofs.lemmas.Int.Digits.{digits_value_more}
use Rattle.std.proofs.lemmas.Str.Parse.{IsNumeralModel, numerals_by_value, digit_at}
use Rattle.std.proofs.lemmas.Str.Parse.{digits_value_short, digits_value-take-le}

-- texts of digits and the number they write
own : IsNumeralModel (λ ds. list_all is_ascii_digit ds ≡ true) (digits_value 10)
own = numerals_by_value _ (search rules)

-- each byte of digits is one
pub is_digit : (ds : List ℕ) (i : ℕ) → list_all is_ascii_digit ds ≡ true → i < length ds
    → (48 ≤ get_or ds i 0) × (get_or ds i 0 ≤ 57)
is_digit ds i h l = digit_at ds i (own.to ds h) l

-- one more digit, ten times the number before it and the digit
pub number_more : (ds : List ℕ) (i : ℕ) → list_all is_ascii_digit ds ≡ true → i < length ds
    → digits_value 10 (take (i + 1) ds) ≡ digits_value 10 (take i ds) * 10 + (get_or ds i 0 - 48)
number_more ds i h l =
    let d = is_digit ds i h l in
    let e : digit_value (get_or ds i 0) ≡ get_or ds i 0 - 48 = grind (arith, nat_tests) in
    digits_value_more 10 ds i l ∙ ap (λ d. digits_value 10 (take i ds) * 10 + d) e

-- nine digits stay below a thousand million, and so does each number on the way
pub number_fits : (ds : List ℕ) (i : ℕ) → list_all is_ascii_digit ds ≡ true → length ds ≤ 9 → i < length ds
    → digits_value 10 (take i ds) * 10 + (get_or ds i 0 - 48) < 1000000000
number_fits ds i h short l =
    let all : digits_value 10 ds < 1000000000 = digits_value_short own ds 9 h short in
    omega (arith, number_more ds i h l, digits_value-take-le 10 ds (i + 1) (omega arith), all)

pub ruleset digits_so_far = (is_digit, number_more, number_fits)
