-- The description of a made document is read and has no fault, however many cycles it has.
use Rattle.std.proofs.Common.{◌≡◌, ℕ, zero, suc, ◌+◌, ◌-◌, ◌^◌, ◌<◌, ◌≤◌, Bool, true, false}
use Rattle.std.proofs.Common.{List, [], ◌∷◌, ◌++◌, length, Option, Some, None, Result, Ok, Err}
use Rattle.std.proofs.Common.{pos, refl, sym, ap, ◌∙◌, arith, append_assoc, length-append}
use Rattle.std.specs.Prelude.{◌==◌, nat_lt, nat_le, if◌then◌else◌, codes, decimal, is_some, option_and_then, unwrap_or}
use Rattle.std.specs.Fmt.{digits}
use Rattle.std.specs.Str.{is_utf8, chars}
use Rattle.std.proofs.lemmas.Bool.{leb-true, lt-ltb, le-leb}
use Rattle.std.proofs.lemmas.Bool.Decides.{nat_tests}
use Rattle.std.proofs.lemmas.Fmt.{IsAscii-decimal}
use Rattle.std.proofs.lemmas.Option.{none-some}
use Rattle.std.proofs.lemmas.Str.{IsUtf8-append, IsUtf8-from_ascii, IsUtf8-from_is_utf8, is_utf8-from_IsUtf8}
use Rattle.toml_parser.specs.Lexical.{skip_blank}
use Rattle.toml_writer.specs.Text.{key_text}
use Rattle.toml.specs.Data.{integer}
use Rattle.toml.specs.Tables.{no_nodes, node, value, close, Document, Expression}
use Rattle.toml.specs.Tables.{define, key_value, along_header, along_dots, at_key}
use Rattle.toml.specs.Parse.{lines, line, skip_bom, parse_document}
use Rattle.toml.proofs.OnLiterals.{toml_on_literals}
use Rattle.toml.proofs.Turns.{lines_more, document_some}
use Rattle.toml.proofs.Blanks.{skip_newline}
use Rattle.toml.proofs.ReadLines.{Turn, line_turn}
use Rattle.fixed_num.specs.Text.{number_of}
use Rattle.iface_names.specs.Interfaces.{interface_of}
use Rattle.cm_document.specs.Reading.{◌>>=◌, fault_as}
use Rattle.cm_document.specs.Forms.{placed}
use Rattle.cm_document.specs.Described.{tree_of, joint_table, component_table, controller_table, top_table}
use Rattle.cm_document.specs.Described.{described_states, description_form, description_in, a_description}
use Rattle.cm_document.specs.Valid.{ranged, valid}
use Rattle.cm_document.specs.Document.{accepted_description}
use Rattle.cm_document.specs.declared.description.Description.{Description}
use Rattle.cm_document.specs.declared.faults.CheckFault.{CheckFault}
use Rattle.cm_document.specs.declared.faults.DescFault.{DescFault}
use Rattle.cm_document.specs.declared.faults.DescProblem.TheVariants.{Text, Check}
use Rattle.cm_document.specs.declared.faults.Wrong.TheVariants as wrong
use Rattle.make_document.specs.Made.{of_each, all_below, robot_lines, running}
use Rattle.make_document.specs.Meant.{component_meant, controller_meant, robot_meant}

-- ---- The text

-- the same text with its cycles apart
abbrev pub as_read : ℕ → List ℕ
as_read m = codes "version = 1\nupdate_rate = 100\ncycles = " ++ (decimal m ++ 10 ∷ robot_lines)

pub running_is : (m : ℕ) → running m ≡ as_read m
running_is m =
    ap (λ t. codes "version = 1\nupdate_rate = 100\ncycles = " ++ t) (append_assoc (decimal m) (10 ∷ []) robot_lines)

-- ---- Lines of a table

-- a key with a whole number
abbrev number_line : List ℕ → ℕ → List ℕ
number_line key n = key_text key ++ (codes " = " ++ (decimal n ++ 10 ∷ []))

-- such a line is read, and what it defines stands before the rest is
line_reads : (turns : ℕ) (doc next : Document) (key : List ℕ) (n : ℕ) (text rest : List ℕ) → 0 < turns → n < 2 ^ 63
    → skip_blank text ≡ skip_blank (number_line key n ++ rest)
    → define doc (([], key), key_value (integer (pos n))) ≡ Some next
    → lines turns doc text ≡ lines (turns - 1) next (10 ∷ rest)
line_reads turns doc next key n text rest some small skip defined =
    let turn : Turn ([], key) (key_value (integer (pos n))) (number_line key n ++ rest) rest =
    line_turn false true ([], key) (key_value (integer (pos n))) (number_line key n) rest
    (decimal n, refl, (refl, record { sfits = small })) (refl, omega arith, refl) in
    let same : skip_blank text ≡ turn.0 = skip ∙ turn.1 in
    let more : (length (skip_blank text) == 0) ≡ false = rw same (grind (arith, nat_tests, turn.3)) in
    lines_more turns doc next text (([], key), key_value (integer (pos n))) (10 ∷ rest) some more (rw same turn.2)
    defined

-- what goes on with a value goes on so with another that comes to the same
then_same : {A B : Type 0} (o : Option A) (f g : A → Option B) (b : B) → ((a : A) → f a ≡ Some b → g a ≡ Some b)
    → option_and_then f o ≡ Some b → option_and_then g o ≡ Some b
then_same None f g b same e = absurd (none-some b e)
then_same (Some a) f g b same e = same a e

-- and so does a choice
choice_same : {A : Type 0} (stop : Bool) (x y z : A) (b : A) → (y ≡ b → z ≡ b) → (if stop then x else y) ≡ b
    → (if stop then x else z) ≡ b
choice_same true x y z b same e = e
choice_same false x y z b same e = same e

-- what is read after an expression, in so many turns
abbrev read_on : Document → ℕ → Expression × List ℕ → Option Document
read_on doc turns e = option_and_then (λ next. lines turns next e.1) (define doc e.0)

-- lines that are read in some turns are read in more
lines_longer : (turns more : ℕ) (doc after : Document) (text : List ℕ) → lines turns doc text ≡ Some after
    → lines (turns + more) doc text ≡ Some after
unfolding lines
lines_longer zero more doc after text e = absurd (none-some after e)
lines_longer (suc turns) more doc after text e =
    let sum : suc turns + more ≡ suc (turns + more) = omega arith in
    let start = line (skip_blank text) in
    let each = λ (e : Expression × List ℕ). then_same (define doc e.0) (λ next. lines turns next e.1)
    (λ next. lines (turns + more) next e.1) after (λ next. lines_longer turns more next after e.1) in
    let on = then_same start (read_on doc turns) (read_on doc (turns + more)) after each in
    rw sum (choice_same (length (skip_blank text) == 0) (Some doc) (option_and_then (read_on doc turns) start)
    (option_and_then (read_on doc (turns + more)) start) (Some after) on e)

-- ---- The first three lines

abbrev after_version : Document
after_version = (node (codes "version") (value (integer (pos 1))) no_nodes, [])

abbrev after_rate : Document
after_rate = (
  node (codes "update_rate") (value (integer (pos 100))) (node (codes "version") (value (integer (pos 1))) no_nodes),
  [],
)

abbrev after_cycles : ℕ → Document
after_cycles m = (
  node (codes "cycles") (value (integer (pos m)))
      (node (codes "update_rate") (value (integer (pos 100)))
      (node (codes "version") (value (integer (pos 1))) no_nodes)),
  [],
)

defines_version : define (no_nodes, []) (([], codes "version"), key_value (integer (pos 1))) ≡ Some after_version
unfolding define along_header along_dots at_key
defines_version = refl

defines_rate : define after_version (([], codes "update_rate"), key_value (integer (pos 100))) ≡ Some after_rate
unfolding define along_header along_dots at_key
defines_rate = refl

defines_cycles : (m : ℕ) → define after_rate (([], codes "cycles"), key_value (integer (pos m))) ≡ Some (after_cycles m)
unfolding define along_header along_dots at_key
defines_cycles m = refl

-- the text from the third line on, and from the second
abbrev from_cycles : ℕ → List ℕ
from_cycles m = codes "cycles = " ++ (decimal m ++ 10 ∷ robot_lines)

abbrev from_rate : ℕ → List ℕ
from_rate m = codes "update_rate = 100\n" ++ from_cycles m

version_line : (m : ℕ) → number_line (codes "version") 1 ++ from_rate m ≡ codes "version = 1\n" ++ from_rate m
unfolding key_text digits
version_line m = refl

rate_line : (m : ℕ)
    → number_line (codes "update_rate") 100 ++ from_cycles m ≡ codes "update_rate = 100\n" ++ from_cycles m
unfolding key_text digits
rate_line m = refl

cycles_line : (m : ℕ) → number_line (codes "cycles") m ++ robot_lines ≡ from_cycles m
unfolding key_text
cycles_line m = ap (λ t. codes "cycles = " ++ t) (append_assoc (decimal m) (10 ∷ []) robot_lines)

-- they leave the three numbers in the table
head_reads : (m turns : ℕ) → m < 2 ^ 63 → 3 ≤ turns
    → lines turns (no_nodes, []) (as_read m) ≡ lines (turns - 1 - 1 - 1) (after_cycles m) (10 ∷ robot_lines)
head_reads m turns small some =
    let one = line_reads turns (no_nodes, []) after_version (codes "version") 1 (as_read m) (from_rate m) (omega arith)
    (omega arith) (ap skip_blank (sym (version_line m))) defines_version in
    let two = line_reads (turns - 1) after_version after_rate (codes "update_rate") 100 (10 ∷ from_rate m)
    (from_cycles m) (omega arith) (omega arith)
    (skip_newline (from_rate m) ∙ ap skip_blank (sym (rate_line m))) defines_rate in
    let three = line_reads (turns - 1 - 1) after_rate (after_cycles m) (codes "cycles") m (10 ∷ from_cycles m)
    robot_lines (omega arith) small
    (skip_newline (from_cycles m) ∙ ap skip_blank (sym (cycles_line m))) (defines_cycles m) in
    one ∙ two ∙ three

-- ---- The robot

-- the table after all lines
abbrev after_robot : ℕ → Document
after_robot m = unwrap_or (lines 80 (after_cycles m) (10 ∷ robot_lines)) (no_nodes, [])

-- it has no more lines than are read in 80 turns
robot_ends : (m : ℕ) → is_some (lines 80 (after_cycles m) (10 ∷ robot_lines)) ≡ true
unfolding toml_on_literals robot_lines of_each digits
robot_ends m = refl

some_is : {A : Type 0} (o : Option A) (other : A) → is_some o ≡ true → o ≡ Some (unwrap_or o other)
some_is None other e = cc
some_is (Some x) other e = refl

robot_reads : (m : ℕ) → lines 80 (after_cycles m) (10 ∷ robot_lines) ≡ Some (after_robot m)
robot_reads m = some_is (lines 80 (after_cycles m) (10 ∷ robot_lines)) (no_nodes, []) (robot_ends m)

robot_long : nat_le 80 (length robot_lines) ≡ true
unfolding robot_lines of_each digits
robot_long = refl

no_mark : (m : ℕ) → skip_bom (as_read m) ≡ as_read m
unfolding skip_bom
no_mark m = refl

-- the tree of the text
parsed : (m : ℕ) → m < 2 ^ 63 → parse_document (as_read m) ≡ Some (close (after_robot m).0)
parsed m small =
    let turns = suc (length (as_read m)) in
    let long : 80 ≤ length robot_lines = leb-true 80 (length robot_lines) robot_long in
    let size = length-append (codes "version = 1\nupdate_rate = 100\ncycles = ") (decimal m ++ 10 ∷ robot_lines) in
    let more = length-append (decimal m) (10 ∷ robot_lines) in
    let enough : turns - 1 - 1 - 1 ≡ 80 + (turns - 83) = omega arith in
    document_some (as_read m) (after_robot m) (ap (lines turns (no_nodes, [])) (no_mark m)
    ∙ head_reads m turns small (omega arith)
    ∙ ap (λ n. lines n (after_cycles m) (10 ∷ robot_lines)) enough
    ∙ lines_longer 80 (turns - 83) (after_cycles m) (after_robot m) (10 ∷ robot_lines) (robot_reads m))

-- ---- Bytes

head_is_utf8 : is_utf8 (codes "version = 1\nupdate_rate = 100\ncycles = ") ≡ true
unfolding is_utf8 chars lib.Utf8.encode
head_is_utf8 = refl

robot_is_utf8 : is_utf8 (10 ∷ robot_lines) ≡ true
unfolding is_utf8 chars robot_lines of_each digits lib.Utf8.encode
robot_is_utf8 = refl

text_is_utf8 : (m : ℕ) → m < 2 ^ 64 → is_utf8 (as_read m) ≡ true
text_is_utf8 m small =
    is_utf8-from_IsUtf8 (as_read m)
    (IsUtf8-append (codes "version = 1\nupdate_rate = 100\ncycles = ") (decimal m ++ 10 ∷ robot_lines)
    (IsUtf8-from_is_utf8 _ head_is_utf8)
    (IsUtf8-append (decimal m) (10 ∷ robot_lines) (IsUtf8-from_ascii (decimal m) (IsAscii-decimal m small))
    (IsUtf8-from_is_utf8 _ robot_is_utf8)))

tree_is : (m : ℕ) → m < 2 ^ 63 → tree_of (as_read m) ≡ Some (close (after_robot m).0)
unfolding tree_of
tree_is m small =
    ap (λ b. if b then parse_document (as_read m) else None) (text_is_utf8 m (omega arith)) ∙ parsed m small

-- ---- The walk and the checks

-- what the walk makes of the tree, by whether the number of cycles is a whole
abbrev walked : ℕ → Bool → Result Description DescFault
walked m fits =
    ((placed (codes "cycles") (if fits then Ok m else Err wrong.Value) >>= λ cycles. Ok (a_description 1 100 cycles))
    >>= λ make. Ok (make (component_meant ∷ [])))
    >>= λ make. Ok (make (all_below (λ i. controller_meant i ∷ []) 8))

walk_is : (m : ℕ) → description_in (Some (close (after_robot m).0)) ≡ walked m (nat_lt m (2 ^ 32))
unfolding toml_on_literals robot_lines of_each digits description_form top_table described_states component_table
    joint_table controller_table number_of interface_of
walk_is m = refl

-- a check that finds no fault
abbrev passed : Result (Unit {0}) CheckFault
passed = Ok tt

-- what the checks make of the robot, by whether there are not too many cycles
abbrev judged : Description → Bool → Result Description CheckFault
judged d fits = (ranged fits (codes "cycles") >>= λ _. passed) >>= λ _. Ok d

checks_are : (m : ℕ) → valid (robot_meant m) ≡ judged (robot_meant m) (nat_le m 100000)
unfolding valid digits
checks_are m = refl

-- The description is the robot that is meant.
pub described : (m : ℕ) → m ≤ 100000 → accepted_description (running m) ≡ Ok (robot_meant m)
unfolding accepted_description
described m few =
    let whole : nat_lt m (2 ^ 32) ≡ true = lt-ltb m (2 ^ 32) (omega arith) in
    let fits : nat_le m 100000 ≡ true = le-leb m 100000 few in
    let read : description_in (tree_of (as_read m)) ≡ Ok (robot_meant m) =
    ap description_in (tree_is m (omega arith)) ∙ walk_is m ∙ ap (walked m) whole in
    ap accepted_description (running_is m)
    ∙ ap (λ (r : Result Description DescFault). fault_as Text r >>= λ d. fault_as Check (valid d)) read
    ∙ ap (λ (r : Result Description CheckFault). fault_as Check r) (checks_are m ∙ ap (judged (robot_meant m)) fits)
