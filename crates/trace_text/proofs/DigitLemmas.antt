-- The text of a number, part by part.
use Rattle.std.proofs.Common.{◌≡◌, ℕ, ◌+◌, ◌/◌, ◌%◌, ◌<◌, List, [], ◌∷◌, ◌++◌, sym, ap, append_assoc, arith}
use Rattle.std.specs.Prelude.{ℤ, codes, decimal, nat_abs}
use Rattle.fixed_num.specs.Text.{spelled, sign_text, six_digits}
use Rattle.fixed_num.proofs.SpellingLemmas.{six_digits_are}

-- six digits are three pairs
pub six_by_pairs : (d : ℕ) → d < 1000000
    → six_digits d
    ≡ (48 + d / 10000 / 10) ∷ (48 + d / 10000 % 10) ∷ (48 + d / 100 % 100 / 10) ∷ (48 + d / 100 % 100 % 10)
    ∷ (48 + d % 100 / 10) ∷ (48 + d % 100 % 10) ∷ []
six_by_pairs d small =
    let a : d / 10000 / 10 ≡ d / 10 / 10 / 10 / 10 / 10 % 10 = omega arith in
    let b : d / 10000 % 10 ≡ d / 10 / 10 / 10 / 10 % 10 = omega arith in
    let c : d / 100 % 100 / 10 ≡ d / 10 / 10 / 10 % 10 = omega arith in
    let e : d / 100 % 100 % 10 ≡ d / 10 / 10 % 10 = omega arith in
    let f : d % 100 / 10 ≡ d / 10 % 10 = omega arith in
    let g : d % 100 % 10 ≡ d % 10 = omega arith in
    rw (a, b, c, e, f, g) (six_digits_are d small)

-- a space, the sign, the units, and the point with six decimals
pub spelled_in_parts : (n : ℤ)
    → (((32 ∷ []) ++ sign_text n) ++ decimal (nat_abs n / 1000000)) ++ (46 ∷ six_digits (nat_abs n % 1000000))
    ≡ codes " " ++ spelled n
unfolding spelled
spelled_in_parts n =
    ap (λ l. 32 ∷ l)
    (sym (append_assoc (sign_text n ++ decimal (nat_abs n / 1000000)) (46 ∷ []) (six_digits (nat_abs n % 1000000))))
