-- Numbers as text: which texts are numbers, what is wrong with the others, and how a number is spelled. In bytes 45 is
-- `-`, 46 `.`, 48 `0`.
use Rattle.std.specs.Prelude.{ℕ, ◌+◌, ◌-◌, ◌*◌, ◌/◌, ◌%◌, ◌^◌, ℤ, pos, negsuc, neg_ℤ, nat_abs, Bool, true, false, ◌||◌}
use Rattle.std.specs.Prelude.{not, ◌==◌, nat_lt, if◌then◌else◌, List, [], ◌∷◌, ◌++◌, length, drop, replicate, codes}
use Rattle.std.specs.Prelude.{Option, Some, None, Result, Ok, Err}
use Rattle.std.specs.List.{prefix_len, take_while}
use Rattle.std.specs.Char.{is_ascii_digit}
use Rattle.std.specs.Fmt.{decimal}
use Rattle.std.specs.Str.Parse.{digits_value}
use Rattle.fixed_num.specs.declared.TheConstants.{DECIMALS, MICRO, LARGEST}
use Rattle.fixed_num.specs.declared.read.FxFault.{FxFault}
use Rattle.fixed_num.specs.declared.read.FxFault.TheVariants.{Empty, BadByte, TooManyDecimals, TooLarge}

-- A text cut into the parts of a number: whether it begins with `-`, the digits of the whole part, the decimals where a
-- point stands, and the rest, which a number can't have there.
pub record Parts : Type 0 where
  pub negative : Bool
  pub whole : List ℕ
  pub decimals : Option (List ℕ)
  pub rest : List ℕ

-- the digits that a text begins with
abbrev pub front_digits : List ℕ → List ℕ
front_digits text = take_while is_ascii_digit text

-- what follows these digits
abbrev pub after_digits : List ℕ → List ℕ
after_digits text = drop (prefix_len is_ascii_digit text) text

-- A point belongs to a number where a digit stands before it; the digits behind it are the decimals.
abbrev pub parts_from : Bool → List ℕ → List ℕ → Parts
parts_from negative (d ∷ ds) (b ∷ bs) =
    if b == 46 then record {
      negative = negative;
      whole = d ∷ ds;
      decimals = Some (front_digits bs);
      rest = after_digits bs;
    }
    else record { negative = negative; whole = d ∷ ds; decimals = None; rest = b ∷ bs }
parts_from negative whole rest = record { negative = negative; whole = whole; decimals = None; rest = rest }

-- the parts of what stands behind the sign, or of a text without one
abbrev pub unsigned_parts : Bool → List ℕ → Parts
unsigned_parts negative text = parts_from negative (front_digits text) (after_digits text)

-- the parts of a text
abbrev pub number_parts : List ℕ → Parts
number_parts [] = unsigned_parts false []
number_parts (b ∷ bs) = if b == 45 then unsigned_parts true bs else unsigned_parts false (b ∷ bs)

-- no byte stands there
abbrev pub is_empty : List ℕ → Bool
is_empty bytes = length bytes == 0

-- a point stands there, and no digit behind it
abbrev pub is_bare_point : Option (List ℕ) → Bool
is_bare_point None = false
is_bare_point (Some ds) = is_empty ds

-- a digit is missing before the point or behind it, or bytes are left that a number can't have
abbrev pub is_broken : Parts → Bool
is_broken p = (is_empty p.whole || is_bare_point p.decimals) || not (is_empty p.rest)

-- The place of the first byte that can't stand there, or the length where a digit is missing at the end: in both cases
-- the rest begins there.
abbrev pub bad_place : List ℕ → Option ℕ
bad_place text = let p = number_parts text in if is_broken p then Some (length text - length p.rest) else None

-- how many decimals stand there
abbrev pub decimal_count : Option (List ℕ) → ℕ
decimal_count None = 0
decimal_count (Some ds) = length ds

-- what the decimals add, in micro-units: the first of six counts a hundred thousand
abbrev pub micro_of_decimals : Option (List ℕ) → ℕ
micro_of_decimals None = 0
micro_of_decimals (Some ds) = digits_value 10 ds * 10 ^ (DECIMALS - length ds)

-- the number without its sign, in micro-units
abbrev pub size_of : Parts → ℕ
size_of p = digits_value 10 p.whole * MICRO + micro_of_decimals p.decimals

-- the number in micro-units
abbrev pub micro_of : Parts → ℤ
micro_of p = if p.negative then neg_ℤ (pos (size_of p)) else pos (size_of p)

-- the number of these parts, where its decimals are six at most and it lies in the range
abbrev pub number_in_range : Parts → Result ℤ FxFault
number_in_range p =
    if nat_lt DECIMALS (decimal_count p.decimals) then Err TooManyDecimals
    else if nat_lt LARGEST (size_of p) then Err TooLarge
    else Ok (micro_of p)

-- The number that a text stands for, or the first fault: no bytes, a bad byte, seven or more decimals, outside the
-- range.
unfoldable pub number_of : List ℕ → Result ℤ FxFault
number_of [] = Err Empty
number_of (b ∷ bs) = elim (bad_place (b ∷ bs)) [
  | Some place ↦ Err (BadByte place)
  | None ↦ number_in_range (number_parts (b ∷ bs))
]

-- `-` where negative
abbrev pub sign_text : ℤ → List ℕ
sign_text (pos n) = []
sign_text (negsuc n) = codes "-"

-- six digits, with zeros in front
abbrev pub six_digits : ℕ → List ℕ
six_digits n = replicate (DECIMALS - length (decimal n)) 48 ++ decimal n

-- The one spelling of so many micro-units: the sign, the whole part, a point, six decimals.
unfoldable pub spelled : ℤ → List ℕ
spelled n = sign_text n ++ decimal (nat_abs n / MICRO) ++ codes "." ++ six_digits (nat_abs n % MICRO)
