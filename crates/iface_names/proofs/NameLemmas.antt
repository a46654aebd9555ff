-- Names are ASCII, so they are text.
use Rattle.std.proofs.Common.{◌≡◌, ℕ, ◌<◌, List, [], ◌∷◌, true, arith}
use Rattle.std.specs.Prelude.{IsUtf8}
use Rattle.std.specs.List.{list_all}
use Rattle.std.specs.Str.{IsAscii}
use Rattle.std.proofs.lemmas.Str.{IsUtf8-from_ascii}
use Rattle.std.proofs.lemmas.Str.Ascii.{IsAscii-nil, IsAscii-cons}
use Rattle.std.proofs.lemmas.Bool.{and_parts}
use Rattle.std.proofs.lemmas.Bool.Decides.{nat_tests}
use Rattle.iface_names.specs.Names.{is_name, is_name_byte}

-- each byte of a name is below 128
name_byte_ascii : (b : ℕ) → is_name_byte b ≡ true → b < 128
name_byte_ascii b h = grind (arith, nat_tests)

-- what has name bytes alone is ASCII
name_bytes_ascii : (bs : List ℕ) → list_all is_name_byte bs ≡ true → IsAscii bs
name_bytes_ascii [] h = IsAscii-nil
name_bytes_ascii (b ∷ bs) h =
    let both = and_parts _ _ h in IsAscii-cons b bs (name_byte_ascii b both.0) (name_bytes_ascii bs both.1)

-- a name is text
pub is_name-IsUtf8 : (text : List ℕ) → is_name text ≡ true → IsUtf8 text
is_name-IsUtf8 [] h = cc
is_name-IsUtf8 (b ∷ bs) h = IsUtf8-from_ascii (b ∷ bs) (name_bytes_ascii (b ∷ bs) (and_parts _ _ h).1)
