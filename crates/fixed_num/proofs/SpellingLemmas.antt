-- Digits written from the last one on.
use Rattle.std.proofs.Common.{◌≡◌, ℕ, zero, suc, ◌+◌, ◌-◌, ◌/◌, ◌%◌, ◌^◌, ◌<◌, ◌≤◌, List, [], ◌∷◌, ◌++◌, length}
use Rattle.std.proofs.Common.{replicate, append_assoc, length-append, refl, sym, ap, ◌∙◌, inl, inr, arith}
use Rattle.std.specs.Fmt.{decimal}
use Rattle.std.specs.Prelude.{IsUtf8, nat_abs, ℤ, pos, negsuc}
use Rattle.std.specs.Str.{IsAscii}
use Rattle.fixed_num.specs.Text.{sign_text, six_digits, spelled}
use Rattle.std.proofs.lemmas.Fmt.{decimal_digit, decimal_step, length-decimal-le, IsAscii-decimal}
use Rattle.std.proofs.lemmas.Str.{IsUtf8-from_ascii, IsAscii-append}
use Rattle.std.proofs.lemmas.Str.Ascii.{IsAscii-nil, IsAscii-cons}
use Rattle.std.proofs.lemmas.Bool.{cases_lt}
use Rattle.std.proofs.lemmas.List.{replicate_more}

-- the last k digits of n, with zeros in front
abbrev pub low_digits : ℕ → ℕ → List ℕ
low_digits zero n = []
low_digits (suc k) n = low_digits k (n / 10) ++ (48 + n % 10) ∷ []

-- ten digits at most
pub ten_digits : (n : ℕ) → n ≤ 10 ^ 9 → length (decimal n) ≤ 10
ten_digits n h = length-decimal-le 10 n (omega arith) (omega arith) (omega arith)

-- a number's last digit, put before what follows the number
pub decimal_put : (n : ℕ) (tail : List ℕ) → 10 ≤ n → n < 2 ^ 64
    → decimal (n / 10) ++ ((48 + n % 10) ∷ tail) ≡ decimal n ++ tail
decimal_put n tail more small = rw (decimal_step n more small, append_assoc) refl

-- the number without it is one digit shorter
pub decimal_shorter : (n : ℕ) → 10 ≤ n → n < 2 ^ 64 → length (decimal n) ≡ length (decimal (n / 10)) + 1
decimal_shorter n more small = ap length (decimal_step n more small) ∙ length-append (decimal (n / 10)) _

-- the last of k + 1 digits
pub low_put : (k j n : ℕ) (tail : List ℕ) → j ≡ k + 1
    → low_digits k (n / 10) ++ ((48 + n % 10) ∷ tail) ≡ low_digits j n ++ tail
low_put k j n tail one = let more : j ≡ suc k = omega arith in rw (more, append_assoc) refl

-- the last digits of a number that has no more are its digits, with zeros in front
low_digits_are : (k n : ℕ) → n < 10 ^ suc k → n < 2 ^ 64
    → low_digits (suc k) n ≡ replicate (suc k - length (decimal n)) 48 ++ decimal n
low_digits_are zero n small _ =
    let r : n % 10 ≡ n = omega arith in
    rw (decimal_digit n (omega arith), r) refl
low_digits_are (suc k) n small wide =
    let front = low_digits_are k (n / 10) (omega arith) (omega arith) in
    elim (cases_lt n 10) [
      | inl one ↦
          let q : n / 10 ≡ 0 = omega arith in
          let r : n % 10 ≡ n = omega arith in
          let nothing : decimal (n / 10) ≡ 48 ∷ [] = ap decimal q ∙ decimal_digit 0 (omega arith) in
          let rest : suc k - 1 ≡ k = omega arith in
          let zeros : low_digits (suc k) (n / 10) ≡ replicate (k + 1) 48 =
          (rw (nothing, rest) at front) ∙ replicate_more k 48 in
          let few : suc (suc k) - 1 ≡ k + 1 = omega arith in
          rw (decimal_digit n one, few)
          (ap (λ ds. ds ++ (48 + n % 10) ∷ []) zeros ∙ ap (λ d. replicate (k + 1) 48 ++ (48 + d) ∷ []) r)
      | inr more ↦
          let step = decimal_step n more wide in
          let shorter = decimal_shorter n more wide in
          let zeros : suc (suc k) - length (decimal n) ≡ suc k - length (decimal (n / 10)) = omega arith in
          rw (zeros, step, ← append_assoc) (ap (λ ds. ds ++ (48 + n % 10) ∷ []) front)
    ]

-- six of them
pub six_digits_are : (n : ℕ) → n < 1000000 → six_digits n ≡ low_digits 6 n
six_digits_are n small = sym (low_digits_are 5 n small (omega arith))

-- zeros are ASCII
zeros_IsAscii : (k : ℕ) → IsAscii (replicate k 48)
zeros_IsAscii zero = IsAscii-nil
zeros_IsAscii (suc k) = IsAscii-cons 48 (replicate k 48) (omega arith) (zeros_IsAscii k)

-- a sign is ASCII
sign_IsAscii : (n : ℤ) → IsAscii (sign_text n)
sign_IsAscii (pos n) = IsAscii-nil
sign_IsAscii (negsuc n) = IsAscii-cons 45 [] (omega arith) IsAscii-nil

-- a number's text is text
pub spelled_IsUtf8 : (n : ℤ) → nat_abs n ≤ 1000000000000000 → IsUtf8 (spelled n)
unfolding spelled
spelled_IsUtf8 n small =
    let whole = nat_abs n / 1000000 in
    let part = nat_abs n % 1000000 in
    let decimals =
    IsAscii-append (replicate (6 - length (decimal part)) 48) (decimal part) (zeros_IsAscii _)
    (IsAscii-decimal part (omega arith)) in
    let front = IsAscii-append (sign_text n) (decimal whole) (sign_IsAscii n) (IsAscii-decimal whole (omega arith)) in
    let point = IsAscii-append (sign_text n ++ decimal whole) (46 ∷ []) front
    (IsAscii-cons 46 [] (omega arith) IsAscii-nil) in
    IsUtf8-from_ascii (spelled n) (IsAscii-append _ (six_digits part) point decimals)
