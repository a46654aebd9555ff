-- What stands in a printed table is read back: values, lists, and lists of tables.
use Rattle.std.proofs.Common.{◌≡◌, ℕ, ◌+◌, ◌≤◌, ◌^◌, ℤ, pos, false, List, [], ◌∷◌, ◌++◌, length, map}
use Rattle.std.proofs.Common.{Some, None, Result, Ok, refl, sym, ap, ◌∙◌, arith, append_assoc, subst}
use Rattle.std.specs.List.{AllByRecursion, IsDistinct, list_any}
use Rattle.std.proofs.lemmas.Bool.{lt-ltb}
use Rattle.std.proofs.lemmas.Int.{ints}
use Rattle.std.proofs.lemmas.List.{append-nil}
use Rattle.toml.specs.Data.{Data, string, integer, array, table, Members, get_member}
use Rattle.toml.specs.View.{items_of}
use Rattle.fixed_num.specs.Micro.{IsInRange}
use Rattle.fixed_num.specs.Text.{spelled}
use Rattle.fixed_num.proofs.ReadBackLemmas.{spelled_reads_back}
use Rattle.iface_names.specs.Interfaces.{interface_text, kind_named, kind_word, same_kind}
use Rattle.iface_names.specs.declared.interface.IfaceName.{IfaceName}
use Rattle.iface_names.specs.declared.interface.IfaceName.TheVariants.{Joint, Reference}
use Rattle.iface_names.specs.declared.kind.Kind.{Kind}
use Rattle.iface_names.specs.declared.kind.Kind.TheVariants.{Position, Velocity, Effort}
use Rattle.iface_names.proofs.TextLemmas.{joint_reads_back, reference_reads_back}
use Rattle.cm_document.specs.Reading.{◌>>=◌}
use Rattle.cm_document.specs.Vocabulary.{component_word, component_kinds, controller_word}
use Rattle.cm_document.specs.Vocabulary.{controller_kinds, life_word, lives}
use Rattle.cm_document.specs.Forms.{Form, item_path, inside, placed, whole_in, quantity_in}
use Rattle.cm_document.specs.Forms.{name_in, word_in, interface_in, state_in, kind_in}
use Rattle.cm_document.specs.Forms.{items_from, list_of, list_after, tables_from, tables_of}
use Rattle.cm_document.specs.Tables.{required_read, defaulted_read}
use Rattle.cm_document.specs.declared.description.CompKind.{CompKind}
use Rattle.cm_document.specs.declared.description.CompKind.TheVariants.{Sensor, Actuator, System}
use Rattle.cm_document.specs.declared.description.CtlKind.{CtlKind}
use Rattle.cm_document.specs.declared.description.CtlKind.TheVariants as kind
use Rattle.cm_document.specs.declared.faults.Wrong.{Wrong}
use Rattle.cm_document.specs.declared.life.Life.{Life}
use Rattle.cm_document.specs.declared.life.Life.TheVariants.{Unconfigured, Inactive, Active, Finalized}
use Rattle.desc_text.specs.Printed.{Row, table_of, listed, cycles, kinds}
use Rattle.cm_document.specs.Given.{IsName, IsWhole, AreWholes, IsNamed, IsOfJoint}
use Rattle.desc_text.proofs.RowLemmas.{table_at, value_at}

-- ---- One value

-- a name is read back
pub name_back : (name : List ℕ) → IsName name → name_in (string name) ≡ Ok name
name_back name is = rw is refl

-- a whole is read back
pub whole_back : (n : ℕ) → IsWhole n → whole_in (integer (pos n)) ≡ Ok n
whole_back n is = rw (lt-ltb n (2 ^ 32) is) refl

-- a quantity is read back from its text
pub quantity_back : (q : ℤ) → IsInRange q → quantity_in (string (spelled q)) ≡ Ok q
quantity_back q within = rw (spelled_reads_back q (omega (arith, ints, within.0, within.1))) refl

-- what a component is for is read back from its word
pub component_word_back : (k : CompKind) → word_in component_kinds (string (component_word k)) ≡ Ok k
component_word_back Sensor = refl
component_word_back Actuator = refl
component_word_back System = refl

-- a state of the lifecycle is read back from its word
pub life_back : (life : Life) → word_in lives (string (life_word life)) ≡ Ok life
life_back Unconfigured = refl
life_back Inactive = refl
life_back Active = refl
life_back Finalized = refl

-- the type of a controller is read back from its word
pub controller_word_back : (k : CtlKind) → word_in controller_kinds (string (controller_word k)) ≡ Ok k
controller_word_back kind.Forward = refl
controller_word_back _ = refl

-- an interface is read back from its text
pub interface_back : (interface : IfaceName) → IsNamed interface
    → interface_in (string (interface_text interface)) ≡ Ok interface
interface_back (Joint joint kind) named = rw (joint_reads_back joint kind named) refl
interface_back (Reference controller joint kind) named =
    rw (reference_reads_back controller joint kind named.0 named.1) refl

-- so is one of a joint where it is read
pub state_back : (interface : IfaceName) → IsOfJoint interface
    → state_in (string (interface_text interface)) ≡ Ok interface
state_back (Joint joint kind) named = rw (joint_reads_back joint kind named) refl
state_back (Reference controller joint kind) named = absurd named

-- ---- Lists of values

-- each value of a list is read back
abbrev pub EachBack : {A : Type 0} → (Data → Result A Wrong) → (A → Data) → List A → Type 0
EachBack rule value xs = AllByRecursion (λ x. rule (value x) ≡ Ok x) xs

-- what holds of each gives what follows for each
pub each_so : {A : Type 0} (P Q : A → Type 0) → ((x : A) → P x → Q x) → (xs : List A) → AllByRecursion P xs
    → AllByRecursion Q xs
each_so P Q so [] all = tt
each_so P Q so (x ∷ xs) all = (so x all.0, each_so P Q so xs all.1)

-- the values of a list are read back after those found
items_back : {A : Type 0} (rule : Data → Result A Wrong) (value : A → Data) (path : List ℕ) (k : ℕ) (xs found : List A)
    → EachBack rule value xs
    → items_from (λ before. rule) path k (items_of (map value xs)) found ≡ Ok (found ++ xs)
items_back rule value path k [] found each = rw (append-nil found) refl
items_back rule value path k (x ∷ xs) found each =
    ap (λ r. placed (item_path path k) r >>= λ y. items_from (λ before. rule) path (k + 1) (items_of (map value xs))
    (found ++ y ∷ [])) each.0
    ∙ items_back rule value path (k + 1) xs (found ++ x ∷ []) each.1
    ∙ ap Ok (append_assoc found (x ∷ []) xs)

-- an array of values is read back
pub array_back : {A : Type 0} (rule : Data → Result A Wrong) (value : A → Data) (path : List ℕ) (xs : List A)
    → EachBack rule value xs
    → (list_of rule).read path (array (items_of (map value xs))) ≡ Ok xs
array_back rule value path xs each = items_back rule value path 0 xs [] each

-- a list that may be missing is read back
pub list_back : {A : Type 0} (rule : Data → Result A Wrong) (value : A → Data) (path : List ℕ) (xs : List A)
    → EachBack rule value xs
    → defaulted_read (list_of rule) [] path (listed value xs) ≡ Ok xs
list_back rule value path [] each = refl
list_back rule value path (x ∷ xs) each = array_back rule value path (x ∷ xs) each

-- one that may not be missing is read back if it has an item
pub full_list_back : {A : Type 0} (rule : Data → Result A Wrong) (value : A → Data) (path : List ℕ) (xs : List A)
    → EachBack rule value xs → 1 ≤ length xs
    → required_read (list_of rule) path (listed value xs) ≡ Ok xs
full_list_back rule value path [] each some = absurd (omega (arith, some))
full_list_back rule value path (x ∷ xs) each some = array_back rule value path (x ∷ xs) each

-- cycles that may be missing are read back
pub cycles_back : (path : List ℕ) (xs : List ℕ) → AreWholes xs
    → defaulted_read (list_of whole_in) [] path (cycles xs) ≡ Ok xs
cycles_back path xs wholes = list_back whole_in (λ n. integer (pos n)) path xs (each_so IsWhole _ whole_back xs wholes)

-- ---- Lists of kinds

-- the kind of a word is that kind
kind_of_word : (kind : Kind) → kind_named (kind_word kind) ≡ Some kind
kind_of_word Position = refl
kind_of_word Velocity = refl
kind_of_word Effort = refl

-- two kinds are one from either side
same_both_ways : (x y : Kind) → same_kind x y ≡ same_kind y x
same_both_ways Position Position = refl
same_both_ways Position Velocity = refl
same_both_ways Position Effort = refl
same_both_ways Velocity Position = refl
same_both_ways Velocity Velocity = refl
same_both_ways Velocity Effort = refl
same_both_ways Effort Position = refl
same_both_ways Effort Velocity = refl
same_both_ways Effort Effort = refl

-- what holds of all holds of the one in the middle
of_middle : {A : Type 0} (P : A → Type 0) (before : List A) (x : A) (after : List A)
    → AllByRecursion P (before ++ x ∷ after) → P x
of_middle P [] x after all = all.0
of_middle P (y ∷ before) x after all = of_middle P before x after all.1

-- a kind of a list in which none stands twice does not stand before itself
not_before : (before : List Kind) (x : Kind) (after : List Kind) → IsDistinct same_kind (before ++ x ∷ after)
    → list_any (same_kind x) before ≡ false
unfolding IsDistinct
not_before [] x after differ = refl
not_before (y ∷ before) x after differ =
    let apart = same_both_ways x y ∙ of_middle (λ z. same_kind y z ≡ false) before x after differ.0 in
    rw (apart, not_before before x after differ.1) refl

-- a new kind is read back
new_back : (path : List ℕ) (before : List Kind) (x : Kind) → list_any (same_kind x) before ≡ false
    → placed path (kind_in before (string (kind_word x))) ≡ Ok x
new_back path before x new = rw (kind_of_word x, new) refl

-- kinds that differ are read back after those found
kind_items_back : (path : List ℕ) (k : ℕ) (xs found : List Kind) → IsDistinct same_kind (found ++ xs)
    → items_from kind_in path k (items_of (map (λ x. string (kind_word x)) xs)) found ≡ Ok (found ++ xs)
kind_items_back path k [] found differ = rw (append-nil found) refl
kind_items_back path k (x ∷ xs) found differ =
    let whole = append_assoc found (x ∷ []) xs in
    let rest = kind_items_back path (k + 1) xs (found ++ x ∷ [])
    (subst (λ all. IsDistinct same_kind all) (sym whole) differ) in
    ap (λ r. r >>= λ y. items_from kind_in path (k + 1) (items_of (map (λ z. string (kind_word z)) xs))
    (found ++ y ∷ []))
    (new_back (item_path path k) found x (not_before found x xs differ))
    ∙ rest ∙ ap Ok whole

-- a list of kinds that differ is read back
pub kind_list_back : (path : List ℕ) (xs : List Kind) → IsDistinct same_kind xs
    → defaulted_read (list_after kind_in) [] path (kinds xs) ≡ Ok xs
kind_list_back path [] differ = refl
kind_list_back path (x ∷ xs) differ = kind_items_back path 0 (x ∷ xs) [] differ

-- ---- Lists of tables

-- each table is read back, wherever it stands
abbrev pub EachTableBack : {A : Type 0} → Form Members A → (A → Members) → List A → Type 0
EachTableBack form tree xs = AllByRecursion (λ x. (prefix : List ℕ) → form.read prefix (tree x) ≡ Ok x) xs

-- tables are read back after those found
tables_from_back : {A : Type 0} (form : Form Members A) (tree : A → Members) (path : List ℕ) (k : ℕ) (xs found : List A)
    → EachTableBack form tree xs
    → tables_from form path k (items_of (map (λ x. table (tree x)) xs)) found ≡ Ok (found ++ xs)
tables_from_back form tree path k [] found each = rw (append-nil found) refl
tables_from_back form tree path k (x ∷ xs) found each =
    ap (λ r. r >>= λ y. tables_from form path (k + 1) (items_of (map (λ z. table (tree z)) xs)) (found ++ y ∷ []))
    (each.0 (inside (item_path path k)))
    ∙ tables_from_back form tree path (k + 1) xs (found ++ x ∷ []) each.1
    ∙ ap Ok (append_assoc found (x ∷ []) xs)

-- a list of tables that may be missing is read back
pub tables_back : {A : Type 0} (form : Form Members A) (tree : A → Members) (path : List ℕ) (xs : List A)
    → EachTableBack form tree xs
    → defaulted_read (tables_of form) [] path (listed (λ x. table (tree x)) xs) ≡ Ok xs
tables_back form tree path [] each = refl
tables_back form tree path (x ∷ xs) each = tables_from_back form tree path 0 (x ∷ xs) [] each

-- one that may not be missing is read back if it has a table
pub full_tables_back : {A : Type 0} (form : Form Members A) (tree : A → Members) (path : List ℕ) (xs : List A)
    → EachTableBack form tree xs → 1 ≤ length xs
    → required_read (tables_of form) path (listed (λ x. table (tree x)) xs) ≡ Ok xs
full_tables_back form tree path [] each some = absurd (omega (arith, some))
full_tables_back form tree path (x ∷ xs) each some = tables_from_back form tree path 0 (x ∷ xs) [] each

-- ---- Keys of a table of rows

-- what a required key of a printed table is read as, from what its row has
pub required_at : {A : Type 0} (key : List ℕ) (form : Form Data A) (rows : List Row) (path : List ℕ) (x : A)
    → required_read form path (value_at key rows None) ≡ Ok x
    → required_read form path (get_member key (table_of rows)) ≡ Ok x
required_at key form rows path x e = ap (required_read form path) (table_at key rows) ∙ e

-- and one that may be missing
pub defaulted_at : {A : Type 0} (key : List ℕ) (form : Form Data A) (default : A) (rows : List Row) (path : List ℕ)
    (x : A)
    → defaulted_read form default path (value_at key rows None) ≡ Ok x
    → defaulted_read form default path (get_member key (table_of rows)) ≡ Ok x
defaulted_at key form default rows path x e = ap (defaulted_read form default path) (table_at key rows) ∙ e

-- one value that is read back, at its path
pub one_back : {A : Type 0} (path : List ℕ) (r : Result A Wrong) (x : A) → r ≡ Ok x → placed path r ≡ Ok x
one_back path r x e = ap (placed path) e
