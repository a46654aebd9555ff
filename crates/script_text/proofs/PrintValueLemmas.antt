-- The words that names, whole numbers and values print as, and that they read back.
use Rattle.std.proofs.Common.{◌≡◌, ℕ, zero, suc, ◌-◌, ◌/◌, ◌%◌, ◌<◌, ◌≤◌, ◌^◌, true, false, List, [], ◌∷◌, ◌++◌, length}
use Rattle.std.proofs.Common.{replicate, Some, Ok, ℤ, pos, negsuc, nat_abs, inl, inr, refl, arith, length-append}
use Rattle.std.specs.Prelude.{nat_le, ◌==◌}
use Rattle.std.specs.List.{AllByRecursion, list_all}
use Rattle.std.specs.Char.{is_ascii_digit}
use Rattle.std.specs.Str.{all_ascii_digits}
use Rattle.std.specs.Str.Parse.{digits_value}
use Rattle.std.specs.Fmt.{decimal}
use Rattle.std.proofs.lemmas.Bool.{and_parts, and_from, cases_Bool}
use Rattle.std.proofs.lemmas.Bool.Decides.{nat_tests}
use Rattle.std.proofs.lemmas.Int.{ints}
use Rattle.std.proofs.lemmas.Fmt.{digits_decimal, digits_value-decimal, decimal_nonempty, length-decimal-le}
use Rattle.fixed_num.specs.Micro.{IsInRange}
use Rattle.fixed_num.specs.Text.{number_of, sign_text, six_digits, spelled}
use Rattle.fixed_num.proofs.DigitLemmas.{own}
use Rattle.fixed_num.proofs.ReadBackLemmas.{spelled_reads_back, spelled_is_short}
use Rattle.iface_names.specs.Names.{is_name_byte}
use Rattle.cm_document.specs.LineGrammar.{name_word, whole_word, value_word, is_time}
use Rattle.cm_document.specs.Given.{IsName}
use Rattle.script_text.proofs.PrintWordLemmas.{IsWord}

-- bytes behind the space
abbrev pub IsShown : List ℕ → Type 0
IsShown text = AllByRecursion (λ b. 32 < b) text

pub IsShown-append : (xs ys : List ℕ) → IsShown xs → IsShown ys → IsShown (xs ++ ys)
IsShown-append [] ys p q = q
IsShown-append (x ∷ xs) ys p q = (p.0, IsShown-append xs ys p.1 q)

digits_IsShown : (ds : List ℕ) → all_ascii_digits ds ≡ true → IsShown ds
digits_IsShown [] h = tt
digits_IsShown (d ∷ ds) h =
    let both = and_parts (is_ascii_digit d) (all_ascii_digits ds) h in
    (grind (arith, nat_tests, both.0), digits_IsShown ds both.1)

-- ---- Names

name_bytes_IsShown : (bs : List ℕ) → list_all is_name_byte bs ≡ true → IsShown bs
name_bytes_IsShown [] h = tt
name_bytes_IsShown (b ∷ bs) h =
    let both = and_parts (is_name_byte b) (list_all is_name_byte bs) h in
    (grind (arith, nat_tests, both.0), name_bytes_IsShown bs both.1)

pub name_IsWord : (name : List ℕ) → IsName name → IsWord name
name_IsWord [] h = cc
name_IsWord (b ∷ bs) h =
    record {
      some = omega arith;
      shown =
          name_bytes_IsShown (b ∷ bs) (and_parts _ (list_all is_name_byte (b ∷ bs)) h).1;
    }

pub name_short : (name : List ℕ) → IsName name → length name ≤ 64
name_short [] h = omega arith
name_short (b ∷ bs) h =
    let front = and_parts _ (list_all is_name_byte (b ∷ bs)) h in
    let fits = (and_parts _ (nat_le (length (b ∷ bs)) 64) front.0).1 in
    grind (arith, nat_tests, fits)

pub name_reads : (name : List ℕ) → IsName name → name_word name ≡ Some name
name_reads name h = rw h refl

-- ---- Whole numbers

digits_test : (ds : List ℕ) → all_ascii_digits ds ≡ true → list_all is_ascii_digit ds ≡ true
digits_test [] h = refl
digits_test (d ∷ ds) h =
    let both = and_parts (is_ascii_digit d) (all_ascii_digits ds) h in and_from _ _ both.0 (digits_test ds both.1)

pub whole_IsWord : (n : ℕ) → n ≤ 999999999 → IsWord (decimal n)
whole_IsWord n small =
    record {
      some = decimal_nonempty n (omega arith);
      shown =
          digits_IsShown (decimal n) (digits_decimal own n (omega arith));
    }

pub whole_short : (n : ℕ) → n ≤ 999999999 → length (decimal n) ≤ 9
whole_short n small = length-decimal-le 9 n (omega arith) (omega arith) (omega arith)

-- digits of a length from 1 to 9 are a whole number
digits_read : (ds : List ℕ) (n : ℕ) → 0 < length ds → length ds ≤ 9 → list_all is_ascii_digit ds ≡ true
    → digits_value 10 ds ≡ n → whole_word ds ≡ Some n
digits_read ds n some few all value =
    let a : nat_le 1 (length ds) ≡ true = grind (arith, nat_tests) in
    let b : nat_le (length ds) 9 ≡ true = grind (arith, nat_tests) in
    rw (a, b, all, value) refl

pub whole_reads : (n : ℕ) → n ≤ 999999999 → whole_word (decimal n) ≡ Some n
whole_reads n small =
    digits_read (decimal n) n (decimal_nonempty n (omega arith)) (whole_short n small)
    (digits_test (decimal n) (digits_decimal own n (omega arith))) (digits_value-decimal own n (omega arith))

-- ---- Values

zeros_IsShown : (k : ℕ) → IsShown (replicate k 48)
zeros_IsShown zero = tt
zeros_IsShown (suc k) = (omega arith, zeros_IsShown k)

sign_IsShown : (v : ℤ) → IsShown (sign_text v)
sign_IsShown (pos n) = tt
sign_IsShown (negsuc n) = (omega arith, tt)

decimal_IsShown : (n : ℕ) → n < 2 ^ 64 → IsShown (decimal n)
decimal_IsShown n small = digits_IsShown (decimal n) (digits_decimal own n small)

-- a size in the range
pub range_size : (v : ℤ) → IsInRange v → nat_abs v ≤ 1000000000000000
range_size v h = omega (arith, ints, h.0, h.1)

pub value_short : (v : ℤ) → IsInRange v → length (spelled v) ≤ 18
value_short v h = spelled_is_short v (range_size v h)

pub value_IsWord : (v : ℤ) → IsInRange v → IsWord (spelled v)
unfolding spelled
value_IsWord v h =
    let small = range_size v h in
    let w = nat_abs v / 1000000 in
    let p = nat_abs v % 1000000 in
    let six : IsShown (six_digits p) =
    IsShown-append (replicate (6 - length (decimal p)) 48) (decimal p) (zeros_IsShown _)
    (decimal_IsShown p (omega arith)) in
    let front = IsShown-append (sign_text v) (decimal w) (sign_IsShown v) (decimal_IsShown w (omega arith)) in
    let point = IsShown-append (sign_text v ++ decimal w) (46 ∷ []) front (omega arith, tt) in
    let all = IsShown-append ((sign_text v ++ decimal w) ++ 46 ∷ []) (six_digits p) point six in
    let long = length-append (sign_text v ++ decimal w) (46 ∷ []) in
    let longer = length-append ((sign_text v ++ decimal w) ++ 46 ∷ []) (six_digits p) in
    record { some = omega (arith, long, longer); shown = all }

pub value_reads : (v : ℤ) → IsInRange v → value_word (spelled v) ≡ Some v
value_reads v h = rw (spelled_reads_back v (range_size v h), value_word) refl

-- a number begins with no `@`
number_untimed : (word : List ℕ) (v : ℤ) → number_of word ≡ Ok v → is_time word ≡ false
unfolding number_of
number_untimed [] v h = refl
number_untimed (b ∷ bs) v h = elim (cases_Bool (b == 64)) [
  | inr other ↦ other
  | inl at ↦ let e : b ≡ 64 = grind (arith, nat_tests) in let k = rw e at h in cc
]

pub value_untimed : (v : ℤ) → IsInRange v → is_time (spelled v) ≡ false
value_untimed v h = number_untimed (spelled v) v (spelled_reads_back v (range_size v h))
