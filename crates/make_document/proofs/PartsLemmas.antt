-- A made document is divided at its separator: 78 lines of description before it, and the script behind it.
use Rattle.std.proofs.Common.{◌≡◌, ℕ, ◌+◌, ◌<◌, ◌^◌, true, false, List, [], ◌∷◌}
use Rattle.std.proofs.Common.{◌++◌, Some, refl, sym, ap, ◌∙◌, arith, append_assoc}
use Rattle.std.specs.Prelude.{◌==◌, codes, decimal}
use Rattle.std.specs.Char.{is_ascii_digit}
use Rattle.std.specs.Fmt.{digits}
use Rattle.std.specs.List.{onto_first}
use Rattle.std.specs.Str.{all_ascii_digits}
use Rattle.std.proofs.lemmas.Bool.{and_parts}
use Rattle.std.proofs.lemmas.Bool.Decides.{nat_tests}
use Rattle.std.proofs.lemmas.Fmt.{digits_decimal}
use Rattle.fixed_num.proofs.DigitLemmas.{own}
use Rattle.cm_document.specs.Lines.{raw_lines, joined, Parts, parts_of_lines, parts_of}
use Rattle.cm_document.proofs.LineLemmas.{joined_raw_lines}
use Rattle.make_document.specs.Made.{of_each, robot_lines, running}
use Rattle.make_document.proofs.DescriptionLemmas.{as_read, running_is}

-- parts of this description, of so many lines, and this script
abbrev parts_with : List ℕ → ℕ → List ℕ → Parts
parts_with description lines script = record { description = description; lines = lines; script = Some script }

-- a line before the description of other parts
abbrev behind : List ℕ → Parts → Parts
behind line parts = record { description = line ++ parts.description; lines = parts.lines + 1; script = parts.script }

-- the first two lines are no separators
numbers_pass : (rest : List ℕ) → parts_of_lines (raw_lines (codes "version = 1\nupdate_rate = 100\n" ++ rest))
    ≡ behind (codes "version = 1\n") (behind (codes "update_rate = 100\n") (parts_of_lines (raw_lines rest)))
numbers_pass rest = refl

-- digits stand in one line with what ends it
digits_then : (ds rest : List ℕ) → all_ascii_digits ds ≡ true
    → raw_lines (ds ++ 10 ∷ rest) ≡ (ds ++ 10 ∷ []) ∷ raw_lines rest
digits_then [] rest all = refl
digits_then (d ∷ ds) rest all =
    let both = and_parts (is_ascii_digit d) (all_ascii_digits ds) all in
    let inside : (d == 10) ≡ false = grind (arith, nat_tests, both.0) in
    rw inside (ap (onto_first d) (digits_then ds rest both.1))

-- the lines of a text behind the word of the third line
abbrev behind_cycles : List (List ℕ) → List (List ℕ)
behind_cycles lines =
    onto_first 99
    (onto_first 121
    (onto_first 99
    (onto_first 108 (onto_first 101 (onto_first 115 (onto_first 32 (onto_first 61 (onto_first 32 lines))))))))

-- the third line is no separator either
cycles_pass : (ds rest : List ℕ) → all_ascii_digits ds ≡ true
    → parts_of_lines (raw_lines (codes "cycles = " ++ (ds ++ 10 ∷ rest)))
    ≡ behind (codes "cycles = " ++ (ds ++ 10 ∷ [])) (parts_of_lines (raw_lines rest))
cycles_pass ds rest all = ap (λ lines. parts_of_lines (behind_cycles lines)) (digits_then ds rest all)

-- the robot's lines, up to the separator
robot_passes : (script : List ℕ) → parts_of_lines (raw_lines (robot_lines ++ (codes "--- script ---\n" ++ script)))
    ≡ parts_with robot_lines 75 (joined (raw_lines script))
unfolding robot_lines of_each digits
robot_passes script = refl

-- the parts of the text with its cycles apart
read_parts : (m : ℕ) (script : List ℕ) → m < 2 ^ 64
    → parts_of (as_read m ++ (codes "--- script ---\n" ++ script)) ≡ parts_with (as_read m) 78 script
unfolding parts_of
read_parts m script small =
    let tail = codes "--- script ---\n" ++ script in
    ap (λ t. parts_of_lines (raw_lines (codes "version = 1\nupdate_rate = 100\ncycles = " ++ t)))
    (append_assoc (decimal m) (10 ∷ robot_lines) tail)
    ∙ numbers_pass (codes "cycles = " ++ (decimal m ++ 10 ∷ (robot_lines ++ tail)))
    ∙ ap (λ parts. behind (codes "version = 1\n") (behind (codes "update_rate = 100\n") parts))
    (cycles_pass (decimal m) (robot_lines ++ tail) (digits_decimal own m small)
    ∙ ap (behind (codes "cycles = " ++ (decimal m ++ 10 ∷ []))) (robot_passes script))
    ∙ ap (λ t. parts_with (codes "version = 1\nupdate_rate = 100\ncycles = " ++ t) 78 (joined (raw_lines script)))
    (append_assoc (decimal m) (10 ∷ []) robot_lines)
    ∙ ap (parts_with (as_read m) 78) (joined_raw_lines script)

-- The parts of a made document.
pub parts_are : (m : ℕ) (script : List ℕ) → m < 2 ^ 64
    → parts_of (running m ++ codes "--- script ---\n" ++ script) ≡ parts_with (running m) 78 script
parts_are m script small =
    ap parts_of (append_assoc (running m) (codes "--- script ---\n") script)
    ∙ ap (λ t. parts_of (t ++ (codes "--- script ---\n" ++ script))) (running_is m)
    ∙ read_parts m script small
    ∙ ap (λ t. parts_with t 78 script) (sym (running_is m))
