-- The parts of a text, cut off one by one.
use Rattle.std.proofs.Common.{◌≡◌, ℕ, ◌+◌, ◌-◌, ◌<◌, ◌≤◌, List, [], ◌∷◌, length, take}
use Rattle.std.proofs.Common.{drop, Some, None, Err, refl, subst, arith, length-drop}
use Rattle.std.specs.Prelude.{position, ◌==◌}
use Rattle.std.proofs.lemmas.List.{take_all}
use Rattle.std.proofs.lemmas.List.Splits.{slice_split_first, slice_split_none, length-slice_split}
use Rattle.iface_names.proofs.PlaceLemmas.{found_first, none_passes}
use Rattle.iface_names.specs.Interfaces.{interface_parts, interface_of_parts, interface_of}
use Rattle.iface_names.specs.declared.name.NameFault.TheVariants.{BadName}

-- a text with a `/` is cut there
pub parts_at_slash : (xs : List ℕ) (k : ℕ) → position (λ b. b == 47) xs ≡ Some k
    → interface_parts xs ≡ take k xs ∷ interface_parts (take (length xs - (k + 1)) (drop (k + 1) xs))
parts_at_slash xs k h =
    let found = found_first (λ b. b == 47) xs k h in
    let rest : length (drop (k + 1) xs) ≤ length xs - (k + 1) = omega (arith, length-drop (k + 1) xs) in
    rw (take_all (length xs - (k + 1)) (drop (k + 1) xs) rest)
    (subst (λ n. interface_parts xs ≡ take n xs ∷ interface_parts (drop (n + 1) xs)) found.1
    (slice_split_first (λ b. b == 47) xs 0 found.0))

-- a text without a `/` is one part
pub parts_without_slash : (xs : List ℕ) → position (λ b. b == 47) xs ≡ None → interface_parts xs ≡ xs ∷ []
parts_without_slash xs h = slice_split_none (λ b. b == 47) xs (none_passes (λ b. b == 47) xs h)

pub ruleset cutting_parts = (parts_at_slash, parts_without_slash)

-- parts after the third are too many
too_many_parts : (a b c : List ℕ) (ps : List (List ℕ)) → 0 < length ps
    → interface_of_parts (a ∷ b ∷ c ∷ ps) ≡ Err BadName
too_many_parts a b c [] some = absurd (omega arith)
too_many_parts a b c (p ∷ ps) some = refl

-- a text of more than three parts is no interface
pub more_than_three : (text more last rest a b c : List ℕ) → interface_parts text ≡ a ∷ interface_parts more
    → interface_parts more ≡ b ∷ interface_parts last → interface_parts last ≡ c ∷ interface_parts rest
    → interface_of text ≡ Err BadName
unfolding interface_of
more_than_three text more last rest a b c one two three =
    rw (one, two, three)
    (too_many_parts a b c (interface_parts rest) (omega (arith, length-slice_split (λ b. b == 47) rest)))
