-- An interface's text and its parts, both ways.
use Rattle.std.proofs.Common.{◌≡◌, ℕ, Bool, true, false, List, [], ◌∷◌, ◌++◌, Option, Some, None, Ok}
use Rattle.std.proofs.Common.{Err, refl, sym, ap, ◌∙◌, arith, append_assoc, true≢false, inl, inr}
use Rattle.std.specs.Prelude.{if◌then◌else◌, ◌&&◌, ◌==◌, codes, find}
use Rattle.std.specs.List.{list_all, All, AllByRecursion, join_with_byte}
use Rattle.std.specs.Option.{option_map}
use Rattle.std.proofs.lemmas.Bool.{and_parts, cases_Bool}
use Rattle.std.proofs.lemmas.Bool.Decides.{nat_tests}
use Rattle.std.proofs.lemmas.List.Elements.{All-nil, All-cons}
use Rattle.std.proofs.lemmas.List.Splits.{slice_split_at, join_with_byte-slice_split}
use Rattle.std.proofs.lemmas.Slice.Eq.{bytes_eq-Decides}
use Rattle.iface_names.specs.Names.{is_name, is_name_byte, same_name}
use Rattle.iface_names.specs.Interfaces.{kind_word, kind_named, interface_parts, joint_of, reference_of}
use Rattle.iface_names.specs.Interfaces.{interface_of_parts, interface_of, interface_text}
use Rattle.iface_names.specs.declared.interface.IfaceName.{IfaceName}
use Rattle.iface_names.specs.declared.interface.IfaceName.TheVariants.{Joint, Reference}
use Rattle.iface_names.specs.declared.kind.TheConstants.{KINDS}
use Rattle.iface_names.specs.declared.kind.Kind.{Kind}
use Rattle.iface_names.specs.declared.kind.Kind.TheVariants.{Position, Velocity, Effort}
use Rattle.iface_names.specs.declared.name.NameFault.TheVariants.{BadName}

-- a joint's interface prints as the joint, then `/`, then the kind
joint_text : (joint word : List ℕ) → joint ++ codes "/" ++ word ≡ joint ++ (47 ∷ word)
joint_text joint word = append_assoc joint (codes "/") word

-- a reference prints as the controller, then `/`, then the rest
reference_text : (controller joint word : List ℕ)
    → controller ++ codes "/" ++ joint ++ codes "/" ++ word ≡ controller ++ (47 ∷ (joint ++ (47 ∷ word)))
reference_text controller joint word =
    append_assoc (controller ++ codes "/" ++ joint) (codes "/") word
    ∙ append_assoc (controller ++ codes "/") joint (47 ∷ word)
    ∙ append_assoc controller (codes "/") (joint ++ (47 ∷ word))

-- ---- From an interface to its text and back

-- no byte of a name is `/`
no_slash : (b : ℕ) → is_name_byte b ≡ true → (b == 47) ≡ false
no_slash b h = grind (arith, nat_tests)

-- no byte of a name is `/`, in all of a list
no_slashes : (name : List ℕ) → list_all is_name_byte name ≡ true → All (λ b. (b == 47) ≡ false) name
no_slashes [] h = All-nil (λ b. (b == 47) ≡ false)
no_slashes (b ∷ bs) h =
    let both = and_parts _ _ h in All-cons (λ b. (b == 47) ≡ false) b bs (no_slash b both.0) (no_slashes bs both.1)

-- a name before a `/` is a part
parts_of_name : (name rest : List ℕ) → is_name name ≡ true
    → interface_parts (name ++ (47 ∷ rest)) ≡ name ∷ interface_parts rest
parts_of_name [] rest h = absurd (true≢false (sym h))
parts_of_name (b ∷ bs) rest h =
    slice_split_at (λ b. b == 47) (b ∷ bs) 47 rest (no_slashes (b ∷ bs) (and_parts _ _ h).1) refl

-- a kind's word is one part
parts_of_word : (kind : Kind) → interface_parts (kind_word kind) ≡ kind_word kind ∷ []
parts_of_word Position = refl
parts_of_word Velocity = refl
parts_of_word Effort = refl

-- a kind's word is that kind's
kind_named_word : (kind : Kind) → kind_named (kind_word kind) ≡ Some kind
kind_named_word Position = refl
kind_named_word Velocity = refl
kind_named_word Effort = refl

-- a joint's interface is read back
pub joint_reads_back : (joint : List ℕ) (kind : Kind) → is_name joint ≡ true
    → interface_of (interface_text (Joint joint kind)) ≡ Ok (Joint joint kind)
unfolding interface_of
joint_reads_back joint kind named =
    let text = joint_text joint (kind_word kind) in
    let cut = parts_of_name joint (kind_word kind) named ∙ ap (λ ps. joint ∷ ps) (parts_of_word kind) in
    ap interface_of_parts (ap interface_parts text ∙ cut) ∙ rw (kind_named_word kind, named) refl

-- a reference is read back
pub reference_reads_back : (controller joint : List ℕ) (kind : Kind) → is_name controller ≡ true → is_name joint ≡ true
    → interface_of (interface_text (Reference controller joint kind)) ≡ Ok (Reference controller joint kind)
unfolding interface_of
reference_reads_back controller joint kind leads named =
    let text = reference_text controller joint (kind_word kind) in
    let cut = parts_of_name joint (kind_word kind) named ∙ ap (λ ps. joint ∷ ps) (parts_of_word kind) in
    ap interface_of_parts
    (ap interface_parts text ∙ parts_of_name controller (joint ++ (47 ∷ kind_word kind)) leads
    ∙ ap (λ ps. controller ∷ ps) cut) ∙ rw (kind_named_word kind, leads, named) refl

pub ruleset reading_back = (joint_reads_back, reference_reads_back)

-- ---- From a text to its interface and back

-- a word that was found in a table whose kinds have their words is the word of its kind
word_of_found : {R : Type 0} (rows : List R) (text : R → List ℕ) (meaning : R → Kind) (word : List ℕ) (kind : Kind)
    → AllByRecursion (λ row. kind_word (meaning row) ≡ text row) rows
    → option_map meaning (find (λ row. same_name (text row) word) rows) ≡ Some kind → kind_word kind ≡ word
word_of_found [] text meaning word kind named h = cc
word_of_found (row ∷ rows) text meaning word kind named h = elim (cases_Bool (same_name (text row) word)) [
  | inl this ↦ let found : meaning row ≡ kind = (let k = rw this at h in cc) in
      rw (← found) (named.0 ∙ (bytes_eq-Decides (text row) word).0 this)
  | inr other ↦ word_of_found rows text meaning word kind named.1 (rw other at h)
]

-- the word of a kind that was read
word_of_kind : (word : List ℕ) (kind : Kind) → kind_named word ≡ Some kind → kind_word kind ≡ word
word_of_kind word kind h = word_of_found KINDS (λ row. row.0.now) (λ row. row.1) word kind (refl, (refl, (refl, tt))) h

-- what two parts name prints as them
joint_prints_back : (v : Bool) (joint word : List ℕ) (kind : Kind) (interface : IfaceName) → kind_named word ≡ Some kind
    → (if v then Ok (Joint joint kind) else Err BadName) ≡ Ok interface
    → interface_text interface ≡ joint ++ (47 ∷ word)
joint_prints_back true joint word kind interface e h =
    let i : interface ≡ Joint joint kind = cc in rw (i, word_of_kind word kind e) (joint_text joint word)
joint_prints_back false joint word kind interface e h = cc

-- what three parts name prints as them
reference_prints_back : (v : Bool) (controller joint word : List ℕ) (kind : Kind) (interface : IfaceName)
    → kind_named word ≡ Some kind
    → (if v then Ok (Reference controller joint kind) else Err BadName) ≡ Ok interface
    → interface_text interface ≡ controller ++ (47 ∷ (joint ++ (47 ∷ word)))
reference_prints_back true controller joint word kind interface e h =
    let i : interface ≡ Reference controller joint kind = cc in
    rw (i, word_of_kind word kind e) (reference_text controller joint word)
reference_prints_back false controller joint word kind interface e h = cc

-- the same where a kind is looked for
joint_of_prints_back : (joint word : List ℕ) (read : Option Kind) (interface : IfaceName) → kind_named word ≡ read
    → joint_of joint read ≡ Ok interface → interface_text interface ≡ joint ++ (47 ∷ word)
joint_of_prints_back joint word None interface e h = cc
joint_of_prints_back joint word (Some kind) interface e h =
    joint_prints_back (is_name joint) joint word kind interface e h

reference_of_prints_back : (controller joint word : List ℕ) (read : Option Kind) (interface : IfaceName)
    → kind_named word ≡ read → reference_of controller joint read ≡ Ok interface
    → interface_text interface ≡ controller ++ (47 ∷ (joint ++ (47 ∷ word)))
reference_of_prints_back controller joint word None interface e h = cc
reference_of_prints_back controller joint word (Some kind) interface e h =
    reference_prints_back (is_name controller && is_name joint) controller joint word kind interface e h

-- what parts name prints as them
parts_print_back : (ps : List (List ℕ)) (interface : IfaceName) → interface_of_parts ps ≡ Ok interface
    → interface_text interface ≡ join_with_byte 47 ps
parts_print_back [] interface h = cc
parts_print_back (a ∷ []) interface h = cc
parts_print_back (joint ∷ word ∷ []) interface h = joint_of_prints_back joint word (kind_named word) interface refl h
parts_print_back (controller ∷ joint ∷ word ∷ []) interface h =
    reference_of_prints_back controller joint word (kind_named word) interface refl h
parts_print_back (a ∷ b ∷ c ∷ d ∷ ps) interface h = cc

-- what a text names prints as the text
pub interface_prints_back : (text : List ℕ) (interface : IfaceName) → interface_of text ≡ Ok interface
    → interface_text interface ≡ text
unfolding interface_of
interface_prints_back text interface h =
    parts_print_back (interface_parts text) interface h ∙ join_with_byte-slice_split 47 text
