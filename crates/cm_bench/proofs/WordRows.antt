-- Words that stand for a number, and words that stand for none.
use Rattle.std.proofs.Common.{◌≡◌, ◌-◌, ◌^◌, [], ◌∷◌, refl, subst, arith, rules}
use Rattle.std.specs.Prelude.{codes}
use Rattle.std.specs.Str.Parse.{digits_value, without_leading_plus}
use Rattle.cm_bench.specs.Words.{AskForRuns, AskForNoRuns, IsNoPlan, StandsFor, StandsForNone}

seven : StandsFor (codes "7") 7
seven = search (rules)

seven_with_a_plus : StandsFor (codes "+7") 7
seven_with_a_plus = search (rules)

two_million : StandsFor (codes "2000000") 2000000
two_million = search (rules)

largest : StandsFor (codes "18446744073709551615") (2 ^ 64 - 1)
largest = search (rules)

one_more : StandsForNone (codes "18446744073709551616")
one_more n (numeral, fits, value) = omega (arith, fits, value)

nothing : StandsForNone []
nothing n ((some, digits), fits, value) = omega (arith, some)

letter : StandsForNone (codes "x")
letter n ((some, (digit, rest)), fits, value) = omega (arith, digit)

minus : StandsForNone (codes "-1")
minus n ((some, (digit, rest)), fits, value) = omega (arith, digit)

no_turns : IsNoPlan (codes "0" ∷ codes "7" ∷ [])
no_turns plan (turns, seed, two, (some, (numeral, fits, value), second)) =
    let none : turns ≡ codes "0" = cc in
    let zero : 0 ≡ plan.turns = subst (λ w. digits_value 10 (without_leading_plus w) ≡ plan.turns) none value in
    omega (arith, some, zero)

one_word : IsNoPlan (codes "1" ∷ [])
one_word plan (turns, seed, two, rest) = cc

three_words : IsNoPlan (codes "1" ∷ codes "7" ∷ codes "7" ∷ [])
three_words plan (turns, seed, two, rest) = cc

hundred_runs : AskForRuns (codes "live") (codes "live" ∷ codes "100" ∷ []) 100
hundred_runs = (codes "live", codes "100", refl, (refl, omega arith, search rules))

no_runs : AskForNoRuns (codes "live") (codes "live" ∷ codes "0" ∷ [])
no_runs n (word, runs, two, (live, some, (numeral, fits, value))) =
    let none : runs ≡ codes "0" = cc in
    let zero : 0 ≡ n = subst (λ w. digits_value 10 (without_leading_plus w) ≡ n) none value in omega (arith, some, zero)

another_word : AskForNoRuns (codes "live") (codes "live" ∷ codes "100" ∷ codes "7" ∷ [])
another_word n (word, runs, two, rest) = cc
