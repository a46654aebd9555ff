-- Names of controllers, joints and sessions.
use Rattle.std.specs.Prelude.{ℕ, Bool, false, ◌&&◌, ◌||◌, ◌==◌, nat_le, if◌then◌else◌, List, [], ◌∷◌, length, nat_eq}
use Rattle.std.specs.Prelude.{Result, Ok, Err}
use Rattle.std.specs.List.{list_all}
use Rattle.std.specs.Cmp.Lexicographic.{pointwise}
use Rattle.iface_names.specs.declared.TheConstants.{LONGEST_NAME}
use Rattle.iface_names.specs.declared.name.NameFault.{NameFault}
use Rattle.iface_names.specs.declared.name.NameFault.TheVariants.{BadName}

-- A to Z and a to z
abbrev pub is_letter : ℕ → Bool
is_letter b = (nat_le 65 b && nat_le b 90) || (nat_le 97 b && nat_le b 122)

-- a letter, 0 to 9 or `_`
abbrev pub is_name_byte : ℕ → Bool
is_name_byte b = (is_letter b || (nat_le 48 b && nat_le b 57)) || b == 95

-- A name has a byte at least and no more than the longest, of letters, digits and `_`, and begins with a letter.
abbrev pub is_name : List ℕ → Bool
is_name [] = false
is_name (b ∷ bs) = (is_letter b && nat_le (length (b ∷ bs)) LONGEST_NAME) && list_all is_name_byte (b ∷ bs)

-- the name of these bytes, where they are one
abbrev pub name_of : List ℕ → Result (List ℕ) NameFault
name_of text = if is_name text then Ok text else Err BadName

-- the two names have the same bytes
abbrev pub same_name : List ℕ → List ℕ → Bool
same_name = pointwise nat_eq
