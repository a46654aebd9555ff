-- Lines that are the same but for the last two digits of their number.
use Rattle.std.proofs.Common.{◌≡◌, ℕ, ◌+◌, ◌-◌, ◌/◌, ◌%◌, ◌<◌, ◌≤◌, ◌^◌, List, [], ◌∷◌, ◌++◌}
use Rattle.std.proofs.Common.{length, ap, sym, ◌∙◌, append_assoc, length-append, arith, inl, inr}
use Rattle.std.specs.Prelude.{Option, None, Some, IfSome, IsSomeAnd, decimal, slice_set}
use Rattle.std.proofs.lemmas.Fmt.{decimal_digit, decimal_step}
use Rattle.std.proofs.lemmas.Bool.{cases_lt}
use Rattle.std.proofs.Math.Seq.{set-append_seam}
use Rattle.cm_storage.specs.declared.kept_call.CycleCall.{CycleCall}
use Rattle.trace_text.specs.Quiet.{quiet_end, quiet_text, DifferAtPair, IsNextWith}

-- two digits are both of a number
two_digits : (n : ℕ) → 10 ≤ n → n < 100 → decimal n ≡ (48 + n % 100 / 10) ∷ (48 + n % 100 % 10) ∷ []
two_digits n many few =
    let tens : n % 100 / 10 ≡ n / 10 = omega arith in
    let ones : n % 100 % 10 ≡ n % 10 = omega arith in
    rw (tens, ones, decimal_step n many (omega arith), decimal_digit (n / 10) (omega arith))

-- two digits are the last of a longer number
last_digits : (n : ℕ) → 100 ≤ n → n < 2 ^ 64
    → decimal n ≡ decimal (n / 100) ++ ((48 + n % 100 / 10) ∷ (48 + n % 100 % 10) ∷ [])
last_digits n many fits =
    let front : n / 10 / 10 ≡ n / 100 = omega arith in
    let tens : n % 100 / 10 ≡ n / 10 % 10 = omega arith in
    let ones : n % 100 % 10 ≡ n % 10 = omega arith in
    rw (
      tens,
      ones,
      decimal_step n (omega arith) fits,
      decimal_step (n / 10) (omega arith) (omega arith),
      append_assoc,
      front,
    )

-- digits between a word and what stands behind it, the last two apart
two_apart : (tail word front digits : List ℕ) (a b : ℕ) → digits ≡ front ++ (a ∷ b ∷ [])
    → (word ++ digits) ++ tail ≡ (word ++ front) ++ (a ∷ b ∷ tail)
two_apart tail word front digits a b e =
    ap (λ l. (word ++ l) ++ tail) e
    ∙ ap (λ l. l ++ tail) (sym (append_assoc word front (a ∷ b ∷ [])))
    ∙ append_assoc (word ++ front) (a ∷ b ∷ []) tail

-- the lines of two numbers with the same digits before the last two
same_front : (tail word front : List ℕ) (last number pair : ℕ) → pair ≡ number % 100
    → decimal last ≡ front ++ ((48 + last % 100 / 10) ∷ (48 + last % 100 % 10) ∷ [])
    → decimal number ≡ front ++ ((48 + number % 100 / 10) ∷ (48 + number % 100 % 10) ∷ [])
    → DifferAtPair tail ((word ++ decimal last) ++ tail) ((word ++ decimal number) ++ tail) pair
same_front tail word front last number pair is before now = record {
  front = word ++ front;
  tens = 48 + last % 100 / 10;
  ones = 48 + last % 100 % 10;
  was = two_apart tail word front (decimal last) _ _ before;
  is = rw is (two_apart tail word front (decimal number) _ _ now);
}

-- the line of the next number
pub next_line : (tail word : List ℕ) (last number pair : ℕ) → number < 2 ^ 64 → IsNextWith last number pair
    → DifferAtPair tail ((word ++ decimal last) ++ tail) ((word ++ decimal number) ++ tail) pair
next_line tail word last number pair fits told =
    elim (cases_lt number 100) [
      | inl few ↦
          same_front tail word [] last number pair told.is
          (two_digits last told.many (omega (arith, few, told.next)))
          (two_digits number (omega (arith, told.many, told.next)) few)
      | inr many ↦
          let before : 100 ≤ last = omega (arith, many, told.next, told.within, told.is) in
          let same : last / 100 ≡ number / 100 = omega (arith, told.next, told.within, told.is) in
          same_front tail word (decimal (number / 100)) last number pair told.is
          (rw (← same) (last_digits last before (omega (arith, fits, told.next))))
          (last_digits number many fits)
    ]

-- the same where it is told whether there are such digits
pub next_differs : (tail word : List ℕ) (last number : ℕ) (pair : Option ℕ) → number < 2 ^ 64
    → IfSome pair (λ p. IsNextWith last number p)
    → IfSome pair (λ p. DifferAtPair tail ((word ++ decimal last) ++ tail) ((word ++ decimal number) ++ tail) p)
next_differs tail word last number None fits told = told
next_differs tail word last number (Some p) fits told = next_line tail word last number p fits told

-- the place behind the first of two
pub set_second : (front behind : List ℕ) (a old b : ℕ)
    → slice_set (front ++ (a ∷ old ∷ behind)) (length front + 1) b ≡ front ++ (a ∷ b ∷ behind)
set_second front behind a old b =
    rw (
      ← append_assoc front (a ∷ []) (old ∷ behind),
      ← append_assoc front (a ∷ []) (b ∷ behind),
      ← length-append front (a ∷ []),
    )
    (set-append_seam (front ++ (a ∷ [])) old behind b)

-- the two digits are put at their places
put_at_pair : (before now : List ℕ) (pair : ℕ) → DifferAtPair quiet_end before now pair
    → slice_set (slice_set before (length before - 9) (48 + pair / 10)) (length before - 8) (48 + pair % 10) ≡ now
put_at_pair before now pair differ =
    let a = 48 + pair / 10 in
    let b = 48 + pair % 10 in
    let long : length before ≡ length differ.front + 9 =
    ap length differ.was ∙ length-append differ.front (differ.tens ∷ differ.ones ∷ quiet_end) in
    let first : length before - 9 ≡ length differ.front = omega (arith, long) in
    let second : length before - 8 ≡ length differ.front + 1 = omega (arith, long) in
    rw (first, second, differ.was, differ.is, set-append_seam differ.front differ.tens (differ.ones ∷ quiet_end) a)
    (set_second differ.front quiet_end a differ.ones b)

-- so the line that stands there becomes the other one
pub renewed : (told : Option CycleCall) (line now : List ℕ) (pair : ℕ)
    → IfSome told (λ before. line ≡ quiet_text before)
    → IsSomeAnd told (λ before. DifferAtPair quiet_end (quiet_text before) now pair)
    → slice_set (slice_set line (length line - 9) (48 + pair / 10)) (length line - 8) (48 + pair % 10) ≡ now
renewed None line now pair stands differ = absurd differ
renewed (Some before) line now pair stands differ = rw stands (put_at_pair (quiet_text before) now pair differ)
