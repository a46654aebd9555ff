-- What is spelled reads back.
use Rattle.std.proofs.Common.{◌≡◌, ℕ, zero, suc, ◌+◌, ◌-◌, ◌*◌, ◌/◌, ◌%◌, ◌<◌, ◌≤◌, Bool, true, false, ◌==◌, nat_lt}
use Rattle.std.proofs.Common.{if◌then◌else◌, List, [], ◌∷◌, ◌++◌, length, take, drop, replicate, Some, Ok, ℤ, pos}
use Rattle.std.proofs.Common.{negsuc, neg_ℤ, nat_abs, append_assoc, length-append, refl, sym, ap, ◌∙◌, inl, inr, arith}
use Rattle.std.specs.List.{prefix_len}
use Rattle.std.specs.Char.{is_ascii_digit}
use Rattle.std.specs.Str.{all_ascii_digits}
use Rattle.std.specs.Str.Parse.{digits_value}
use Rattle.std.specs.Fmt.{decimal}
use Rattle.std.proofs.lemmas.Bool.{cases_Bool, and_parts, le-ltb, ltb-false}
use Rattle.std.proofs.lemmas.Bool.Decides.{nat_tests}
use Rattle.std.proofs.lemmas.Fmt.{digits_decimal, digits_value-decimal, decimal_nonempty, length-decimal-le}
use Rattle.std.proofs.lemmas.List.{append-nil, length-replicate, take_at, drop_at, take_all, drop_all}
use Rattle.fixed_num.specs.Text.{Parts, parts_from, unsigned_parts, number_parts, is_broken, decimal_count}
use Rattle.fixed_num.specs.Text.{size_of, number_in_range, number_of, sign_text, six_digits, spelled}
use Rattle.fixed_num.proofs.DigitLemmas.{own}
use Rattle.fixed_num.proofs.ReadLemmas.{number_of_nothing, number_of_broken, number_of_parts}

-- digits before anything else are counted whole
digits_in_front : (ds tail : List ℕ) → all_ascii_digits ds ≡ true → prefix_len is_ascii_digit tail ≡ 0
    → prefix_len is_ascii_digit (ds ++ tail) ≡ length ds
digits_in_front [] tail h stop = stop
digits_in_front (d ∷ ds) tail h stop =
    let both : (is_ascii_digit d ≡ true) × (all_ascii_digits ds ≡ true) = and_parts _ _ h in
    rw (both.0, digits_in_front ds tail both.1 stop) (omega arith)

-- and so are digits alone
digits_alone : (ds : List ℕ) → all_ascii_digits ds ≡ true → prefix_len is_ascii_digit ds ≡ length ds
digits_alone ds h = rw append-nil at (digits_in_front ds [] h refl)

-- the parts of digits, a point and digits
point_parts : (negative : Bool) (d : ℕ) (ds six : List ℕ) → all_ascii_digits (d ∷ ds) ≡ true
    → all_ascii_digits six ≡ true
    → unsigned_parts negative ((d ∷ ds) ++ 46 ∷ six)
    ≡ record { negative = negative; whole = d ∷ ds; decimals = Some six; rest = [] }
point_parts negative d ds six h k =
    let text = (d ∷ ds) ++ 46 ∷ six in
    let whole = digits_in_front (d ∷ ds) (46 ∷ six) h refl in
    let front : take (prefix_len is_ascii_digit text) text ≡ d ∷ ds =
    ap (λ n. take n text) whole ∙ take_at (d ∷ ds) (46 ∷ six) _ refl in
    let behind : drop (prefix_len is_ascii_digit text) text ≡ 46 ∷ six =
    ap (λ n. drop n text) whole ∙ drop_at (d ∷ ds) (46 ∷ six) _ refl in
    let decimals : take (prefix_len is_ascii_digit six) six ≡ six =
    ap (λ n. take n six) (digits_alone six k) ∙ take_all (length six) six (omega arith) in
    let rest : drop (prefix_len is_ascii_digit six) six ≡ [] =
    ap (λ n. drop n six) (digits_alone six k) ∙ drop_all (length six) six (omega arith) in
    ap (λ f. parts_from negative f (drop (prefix_len is_ascii_digit text) text)) front
    ∙ ap (λ b. parts_from negative (d ∷ ds) b) behind
    ∙ ap (λ x. record
    { negative = negative; whole = d ∷ ds; decimals = Some x; rest = drop (prefix_len is_ascii_digit six) six })
    decimals
    ∙ ap (λ x. record { negative = negative; whole = d ∷ ds; decimals = Some six; rest = x }) rest

-- a size with its sign
abbrev signed : Bool → ℕ → ℤ
signed negative size = if negative then neg_ℤ (pos size) else pos size

-- such parts are the number that they write
point_number : (negative : Bool) (d : ℕ) (ds six : List ℕ) (w s : ℕ) → digits_value 10 (d ∷ ds) ≡ w
    → digits_value 10 six ≡ s → length six ≡ 6 → w * 1000000 + s ≤ 1000000000000000
    → number_in_range (record { negative = negative; whole = d ∷ ds; decimals = Some six; rest = [] })
    ≡ Ok (signed negative (w * 1000000 + s))
point_number negative d ds six w s whole part long small =
    let one : s * 1 ≡ s = omega arith in
    let fits = le-ltb 1000000000000000 (w * 1000000 + s) small in
    rw (long, part, whole, one, fits) refl

-- digits before a point and six behind it that write this size
record Writes (whole six : List ℕ) (size : ℕ) : Type 0 where
  some : 0 < length whole
  digits : all_ascii_digits whole ≡ true
  decimals : all_ascii_digits six ≡ true
  long : length six ≡ 6
  units : digits_value 10 whole ≡ size / 1000000
  part : digits_value 10 six ≡ size % 1000000
  small : size ≤ 1000000000000000

-- their parts lack nothing
parts_whole : (negative : Bool) (d : ℕ) (ds six : List ℕ) (size : ℕ) → Writes (d ∷ ds) six size
    → is_broken (unsigned_parts negative ((d ∷ ds) ++ 46 ∷ six)) ≡ false
parts_whole negative d ds six size w =
    let long = w.long in
    ap is_broken (point_parts negative d ds six w.digits w.decimals) ∙ grind (arith, nat_tests)

-- and are the number of this size
parts_number : (negative : Bool) (d : ℕ) (ds six : List ℕ) (size : ℕ) → Writes (d ∷ ds) six size
    → number_in_range (unsigned_parts negative ((d ∷ ds) ++ 46 ∷ six)) ≡ Ok (signed negative size)
parts_number negative d ds six size w =
    let small = w.small in
    let sum : size / 1000000 * 1000000 + size % 1000000 ≡ size = omega arith in
    let read = point_number negative d ds six (size / 1000000) (size % 1000000) w.units w.part w.long (omega arith) in
    ap number_in_range (point_parts negative d ds six w.digits w.decimals) ∙ read ∙ ap (λ n. Ok (signed negative n)) sum

-- without a sign
plain_reads : (whole six : List ℕ) (size : ℕ) → Writes whole six size → number_of (whole ++ 46 ∷ six) ≡ Ok (pos size)
plain_reads [] six size w = absurd (omega (arith, w.some))
plain_reads (d ∷ ds) six size w =
    let first : is_ascii_digit d ≡ true = (and_parts _ (all_ascii_digits ds) w.digits).0 in
    let unsigned : (d == 45) ≡ false = grind (arith, nat_tests) in
    let parts : number_parts ((d ∷ ds) ++ 46 ∷ six) ≡ unsigned_parts false ((d ∷ ds) ++ 46 ∷ six) = rw unsigned refl in
    number_of_parts ((d ∷ ds) ++ 46 ∷ six) (grind (arith, nat_tests))
    (ap is_broken parts ∙ parts_whole false d ds six size w) ∙ ap number_in_range parts
    ∙ parts_number false d ds six size w

-- with one
minus_reads : (whole six : List ℕ) (size : ℕ) → Writes whole six size
    → number_of (45 ∷ (whole ++ 46 ∷ six)) ≡ Ok (neg_ℤ (pos size))
minus_reads [] six size w = absurd (omega (arith, w.some))
minus_reads (d ∷ ds) six size w =
    number_of_parts (45 ∷ ((d ∷ ds) ++ 46 ∷ six)) (grind (arith, nat_tests)) (parts_whole true d ds six size w)
    ∙ parts_number true d ds six size w

-- zeros in front are digits
zeros_all : (k : ℕ) (ds : List ℕ) → all_ascii_digits ds ≡ true → all_ascii_digits (replicate k 48 ++ ds) ≡ true
zeros_all zero ds h = h
zeros_all (suc k) ds h = zeros_all k ds h

-- and leave the number as it is
zeros_value : (k : ℕ) (ds : List ℕ) → digits_value 10 (replicate k 48 ++ ds) ≡ digits_value 10 ds
zeros_value zero ds = refl
zeros_value (suc k) ds = zeros_value k ds

-- six digits are six
six_digits_long : (n : ℕ) → n < 1000000 → length (six_digits n) ≡ 6
six_digits_long n small =
    let short = length-decimal-le 6 n (omega arith) (omega arith) (omega arith) in
    length-append (replicate (6 - length (decimal n)) 48) (decimal n) ∙ rw (length-replicate) (omega arith)

-- what is spelled of a size writes it
spelled_writes : (size : ℕ) → size ≤ 1000000000000000
    → Writes (decimal (size / 1000000)) (six_digits (size % 1000000)) size
spelled_writes size small =
    let w = size / 1000000 in
    let p = size % 1000000 in
    record {
      some = decimal_nonempty w (omega arith);
      digits = digits_decimal own w (omega arith);
      decimals = zeros_all (6 - length (decimal p)) (decimal p) (digits_decimal own p (omega arith));
      long = six_digits_long p (omega arith);
      units = digits_value-decimal own w (omega arith);
      part = zeros_value (6 - length (decimal p)) (decimal p) ∙ digits_value-decimal own p (omega arith);
      small = small;
    }

-- a number in the range reads back from its text
pub spelled_reads_back : (n : ℤ) → nat_abs n ≤ 1000000000000000 → number_of (spelled n) ≡ Ok n
unfolding spelled
spelled_reads_back (pos m) small =
    rw append_assoc (plain_reads (decimal (m / 1000000)) (six_digits (m % 1000000)) m (spelled_writes m small))
spelled_reads_back (negsuc m) small =
    rw append_assoc
    (minus_reads (decimal (suc m / 1000000)) (six_digits (suc m % 1000000)) (suc m) (spelled_writes (suc m) small))

-- a sign is one byte at most
sign_is_short : (n : ℤ) → length (sign_text n) ≤ 1
sign_is_short (pos m) = omega arith
sign_is_short (negsuc m) = omega arith

-- four texts in a row are as long as they are together
four_long : (a b c d : List ℕ) → length (a ++ b ++ c ++ d) ≡ length a + length b + length c + length d
four_long a b c d = simp length-append

-- no spelling is longer than 18 bytes
pub spelled_is_short : (n : ℤ) → nat_abs n ≤ 1000000000000000 → length (spelled n) ≤ 18
unfolding spelled
spelled_is_short n small =
    let w = nat_abs n / 1000000 in
    let p = nat_abs n % 1000000 in
    let sign = sign_is_short n in
    let whole = length-decimal-le 10 w (omega arith) (omega arith) (omega arith) in
    let six = six_digits_long p (omega arith) in
    let e : length (spelled n) ≡ length (sign_text n) + length (decimal w) + 1 + length (six_digits p) =
    four_long (sign_text n) (decimal w) (46 ∷ []) (six_digits p) in
    omega arith

-- the sign leaves the size
signed_size : (negative : Bool) (size : ℕ) → nat_abs (signed negative size) ≡ size
signed_size true zero = refl
signed_size true (suc size) = refl
signed_size false size = refl

-- what is taken for a number in the range is one
number_in_range_small : (p : Parts) (n : ℤ) → number_in_range p ≡ Ok n → nat_abs n ≤ 1000000000000000
number_in_range_small p n h = elim (cases_Bool (nat_lt 6 (decimal_count p.decimals))) [
  | inl many ↦ let e = rw many at h in cc
  | inr few ↦ elim (cases_Bool (nat_lt 1000000000000000 (size_of p))) [
    | inl large ↦ let e = rw (few, large) at h in cc
    | inr small ↦ let e : signed p.negative (size_of p) ≡ n = (let k = rw (few, small) at h in cc) in
        rw (← e, signed_size) (ltb-false _ _ small)
  ]
]

-- what is read is in the range
pub number_of_small : (text : List ℕ) (n : ℤ) → number_of text ≡ Ok n → nat_abs n ≤ 1000000000000000
number_of_small text n h = elim (cases_Bool (length text == 0)) [
  | inl none ↦ let e = number_of_nothing text none in cc
  | inr some ↦ elim (cases_Bool (is_broken (number_parts text))) [
    | inl broken ↦ let e = number_of_broken text some broken in cc
    | inr whole ↦ number_in_range_small (number_parts text) n (sym (number_of_parts text some whole) ∙ h)
  ]
]
