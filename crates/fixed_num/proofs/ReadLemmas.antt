-- The reader's three ways out.
use Rattle.std.proofs.Common.{◌≡◌, ℕ, ◌-◌, ◌==◌, true, false, List, [], ◌∷◌, length, Err, refl, arith}
use Rattle.std.proofs.lemmas.Bool.Decides.{nat_tests}
use Rattle.fixed_num.specs.Text.{number_parts, is_broken, number_in_range, number_of}
use Rattle.fixed_num.specs.declared.read.FxFault.TheVariants.{Empty, BadByte}

-- no bytes
pub number_of_nothing : (text : List ℕ) → (length text == 0) ≡ true → number_of text ≡ Err Empty
unfolding number_of
number_of_nothing [] e = refl
number_of_nothing (b ∷ bs) e = absurd (grind (arith, nat_tests))

-- a bad byte
pub number_of_broken : (text : List ℕ) → (length text == 0) ≡ false → is_broken (number_parts text) ≡ true
    → number_of text ≡ Err (BadByte (length text - length (number_parts text).rest))
unfolding number_of
number_of_broken [] e broken = absurd (grind (arith, nat_tests))
number_of_broken (b ∷ bs) e broken = rw (broken, number_of) refl

-- parts of a number and nothing else
pub number_of_parts : (text : List ℕ) → (length text == 0) ≡ false → is_broken (number_parts text) ≡ false
    → number_of text ≡ number_in_range (number_parts text)
unfolding number_of
number_of_parts [] e broken = absurd (grind (arith, nat_tests))
number_of_parts (b ∷ bs) e broken = rw (broken, number_of) refl
