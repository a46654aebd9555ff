use Rattle.std.proofs.Common.{◌≡◌, ℕ, ◌+◌, ◌*◌, ◌/◌, ◌%◌, ◌<◌, ◌≤◌, min, max, inl, inr, subst, sym, arith}
use Rattle.std.proofs.lemmas.Bool.{cases_lt}
use Rattle.std.proofs.lemmas.Grind.{div_ceil_times}
use Rattle.std.proofs.Math.Nat.{mul_comm, mul-le-mul_left, min-eq_left, min-eq_right}

-- a quotient that is rounded up
abbrev rounded_up : ℕ → ℕ → ℕ
rounded_up a b = a / b + min 1 (a % b)

-- where each of two numbers is enough, the least of both is
least_is_enough : (c e a b : ℕ) → c ≤ a * e → c ≤ b * e → c ≤ min a b * e
least_is_enough c e a b left right = elim (cases_lt a b) [
  | inl less ↦ subst (λ n. c ≤ n * e) (sym (min-eq_left (omega (arith, less)))) left
  | inr above ↦ subst (λ n. c ≤ n * e) (sym (min-eq_right (omega (arith, above)))) right
]

-- so many columns of so many cycles each are enough for all cycles
pub all_have_columns : (c most e : ℕ) → 0 < most → e ≡ max (rounded_up c most) 1 → c ≤ min (rounded_up c e) most * e
all_have_columns c most e some is =
    let positive : 0 < e = omega (arith, is) in
    let wide : rounded_up c most ≤ e = omega (arith, is) in
    let enough : c ≤ rounded_up c most * most = (div_ceil_times c most some).0 in
    let of_most : c ≤ most * e = omega (arith, enough, mul_comm (rounded_up c most) most, mul-le-mul_left most wide) in
    least_is_enough c e (rounded_up c e) most (div_ceil_times c e positive).0 of_most
