-- What a text of few digits parses to.
use Rattle.std.proofs.Common.{◌≡◌, ◌≢◌, ℕ, ◌<◌, ◌≤◌, ◌^◌, true, List, [], ◌∷◌, length, get_or}
use Rattle.std.proofs.Common.{Result, Ok, Err, refl, sym, subst, ap, ◌∙◌, arith, rules}
use Rattle.std.specs.List.{list_all}
use Rattle.std.specs.Char.{is_ascii_digit}
use Rattle.std.specs.Str.Parse.{digits_value, without_leading_plus, IsNumeral, ParsesUnsigned}
use Rattle.std.proofs.lemmas.Str.Parse.{IsNumeralModel, numerals_by_value, digit_at}
use Rattle.std.proofs.lemmas.Str.Parse.{digits_value_short, without_leading_plus_none}

-- texts of digits and the number they write
own : IsNumeralModel (λ ds. list_all is_ascii_digit ds ≡ true) (digits_value 10)
own = numerals_by_value _ (search rules)

-- digits begin with no plus
no_plus : (ds : List ℕ) → list_all is_ascii_digit ds ≡ true → 1 ≤ length ds → without_leading_plus ds ≡ ds
no_plus ds h some =
    let first = digit_at ds 0 (own.to ds h) (omega arith) in
    without_leading_plus_none ds (λ plus. omega (arith, plus, first.0))

-- one to four digits parse to the number that they write
pub digits_parse : {E : Type 0} (ds : List ℕ) (r : Result ℕ E) → list_all is_ascii_digit ds ≡ true → 1 ≤ length ds
    → length ds ≤ 4 → ParsesUnsigned 32 10 ds r → r ≡ Ok (digits_value 10 ds)
digits_parse ds (Ok n) h some short parses = ap Ok (parses.1 ∙ ap (digits_value 10) (no_plus ds h some))
digits_parse ds (Err e) h some short parses =
    let small = digits_value_short own ds 4 h short in
    absurd (parses
    (subst (λ (t : List ℕ). IsNumeral 10 t × (digits_value 10 t < 2 ^ 32)) (sym (no_plus ds h some))
    ((omega (arith, some), own.to ds h), omega (arith, small))))

pub ruleset rounds = (digits_parse)
