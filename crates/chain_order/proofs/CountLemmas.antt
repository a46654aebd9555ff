-- How many numbers below pass a test.
use Rattle.std.proofs.Common.{◌≡◌, ℕ, zero, suc, ◌+◌, ◌<◌, ◌≤◌, Bool, true, false, inl, inr, refl, sym, ◌∙◌, ap, arith}
use Rattle.std.proofs.lemmas.Bool.{cases_lt}

-- one for what passes
abbrev pub as_number : Bool → ℕ
as_number true = 1
as_number false = 0

as_number-most : (b : Bool) → as_number b ≤ 1
as_number-most true = omega arith
as_number-most false = omega arith

as_number-more : (a b : Bool) → (a ≡ true → b ≡ true) → as_number a ≤ as_number b
as_number-more true b more = let e : as_number b ≡ 1 = ap as_number (more refl) in omega (arith, e)
as_number-more false b more = omega arith

-- how many numbers below pass
abbrev pub count_below : (ℕ → Bool) → ℕ → ℕ
count_below test zero = 0
count_below test (suc n) = count_below test n + as_number (test n)

pub count_below-most : (test : ℕ → Bool) (n : ℕ) → count_below test n ≤ n
count_below-most test zero = omega arith
count_below-most test (suc n) = omega (arith, count_below-most test n, as_number-most (test n))

-- where no fewer pass, no fewer are counted
pub count_below-more : (f g : ℕ → Bool) (n : ℕ) → ((i : ℕ) → i < n → f i ≡ true → g i ≡ true)
    → count_below f n ≤ count_below g n
count_below-more f g zero more = omega arith
count_below-more f g (suc n) more =
    omega (
      arith,
      count_below-more f g n (λ i below. more i (omega (arith, below))),
      as_number-more (f n) (g n) (more n (omega arith)),
    )

-- and where one passes that did not, more are
pub count_below-less : (f g : ℕ → Bool) (n k : ℕ) → ((i : ℕ) → i < n → f i ≡ true → g i ≡ true) → k < n → f k ≡ false
    → g k ≡ true
    → count_below f n < count_below g n
count_below-less f g zero k more below fails passes = absurd (omega (arith, below))
count_below-less f g (suc n) k more below fails passes =
    elim (cases_lt k n) [
      | inl before ↦
          omega (
            arith,
            count_below-less f g n k (λ i inside. more i (omega (arith, inside))) before fails passes,
            as_number-more (f n) (g n) (more n (omega arith)),
          )
      | inr last ↦
          let e : k ≡ n = omega (arith, last, below) in
          let none : as_number (f n) ≡ 0 = ap (λ i. as_number (f i)) (sym e) ∙ ap as_number fails in
          let one : as_number (g n) ≡ 1 = ap (λ i. as_number (g i)) (sym e) ∙ ap as_number passes in
          omega (arith, count_below-more f g n (λ i inside. more i (omega (arith, inside))), none, one)
    ]
