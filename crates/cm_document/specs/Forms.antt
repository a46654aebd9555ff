-- The forms that a value of a description can be asked to have: how each is read, and what is wrong with a value of
-- another form.
use Rattle.std.specs.Prelude.{ℕ, ◌+◌, ◌^◌, ℤ, pos, Bool, true, false, ◌&&◌, nat_lt, if◌then◌else◌, List, [], ◌∷◌, ◌++◌}
use Rattle.std.specs.Prelude.{codes, decimal, Option, Some, None, Result, Ok, Err, is_ok}
use Rattle.std.specs.List.{list_any}
use Rattle.toml.specs.Data.{Data, string, integer, float, boolean, array, table, Items, no_items, item, Members}
use Rattle.toml.specs.Data.{same_key}
use Rattle.fixed_num.specs.Micro.{units}
use Rattle.fixed_num.specs.Text.{number_of}
use Rattle.iface_names.specs.Names.{is_name}
use Rattle.iface_names.specs.Interfaces.{kind_named, same_kind, interface_of}
use Rattle.iface_names.specs.declared.kind.Kind.{Kind}
use Rattle.iface_names.specs.declared.interface.IfaceName.{IfaceName}
use Rattle.iface_names.specs.declared.interface.IfaceName.TheVariants.{Joint, Reference}
use Rattle.cm_document.specs.Reading.{◌>>=◌}
use Rattle.cm_document.specs.Vocabulary.{listed}
use Rattle.cm_document.specs.declared.faults.Wrong.{Wrong}
use Rattle.cm_document.specs.declared.faults.Wrong.TheVariants as wrong
use Rattle.cm_document.specs.declared.faults.DescFault.{DescFault}
use Rattle.cm_document.specs.declared.faults.DescFault.TheVariants.{BadValue, FloatGiven}

-- ---- One value

-- A whole is an integer from 0 to 4,294,967,295.
abbrev pub whole_in : Data → Result ℕ Wrong
whole_in (integer (pos n)) = if nat_lt n (2 ^ 32) then Ok n else Err wrong.Value
whole_in (float x) = Err wrong.Float
whole_in _ = Err wrong.Value

-- a value that is there, or none of the form
abbrev pub where_some : {A : Type 0} → Option A → Result A Wrong
where_some (Some x) = Ok x
where_some None = Err wrong.Value

-- a reading whose fault is that the value is not of the form
abbrev pub or_bad : {A E : Type 0} → Result A E → Result A Wrong
or_bad (Ok x) = Ok x
or_bad (Err e) = Err wrong.Value

-- A quantity is an integer of whole units, or the text of a number.
abbrev pub quantity_in : Data → Result ℤ Wrong
quantity_in (integer z) = where_some (units z)
quantity_in (string text) = or_bad (number_of text)
quantity_in (float x) = Err wrong.Float
quantity_in _ = Err wrong.Value

-- a boolean is `true` or `false`
abbrev pub boolean_in : Data → Result Bool Wrong
boolean_in (boolean b) = Ok b
boolean_in _ = Err wrong.Value

-- a name is a text by the naming rule
abbrev pub name_in : Data → Result (List ℕ) Wrong
name_in (string text) = if is_name text then Ok text else Err wrong.Value
name_in _ = Err wrong.Value

-- what a word stands for, where it is one of the listed
abbrev pub meaning_of : {A : Type 0} → List (List ℕ × A) → List ℕ → Result A Wrong
meaning_of words text = where_some (listed words text)

-- a word is a text of the listed ones
abbrev pub word_in : {A : Type 0} → List (List ℕ × A) → Data → Result A Wrong
word_in words (string text) = meaning_of words text
word_in words _ = Err wrong.Value

-- an interface is a text that names one
abbrev pub interface_in : Data → Result IfaceName Wrong
interface_in (string text) = or_bad (interface_of text)
interface_in _ = Err wrong.Value

-- a joint's interface, not a controller's reference
abbrev pub of_joint : IfaceName → Result IfaceName Wrong
of_joint (Joint joint kind) = Ok (Joint joint kind)
of_joint (Reference controller joint kind) = Err wrong.Value

-- what can be read is an interface of a joint
abbrev pub state_in : Data → Result IfaceName Wrong
state_in d = interface_in d >>= of_joint

-- the kind of a word, where it does not stand among those before it
abbrev pub new_kind : List Kind → Option Kind → Result Kind Wrong
new_kind before None = Err wrong.Value
new_kind before (Some kind) = if list_any (same_kind kind) before then Err wrong.Value else Ok kind

-- a kind of interface stands once in a list
abbrev pub kind_in : List Kind → Data → Result Kind Wrong
kind_in before (string text) = new_kind before (kind_named text)
kind_in before _ = Err wrong.Value

-- ---- Places

-- the fault at a path
abbrev pub at : List ℕ → Wrong → DescFault
at path wrong.Float = FloatGiven path
at path wrong.Value = BadValue path

-- a reading, what is wrong told with its path
abbrev pub placed : {A : Type 0} → List ℕ → Result A Wrong → Result A DescFault
placed path (Ok x) = Ok x
placed path (Err w) = Err (at path w)

-- the k-th item of the list at a path, as `claims[2]`
abbrev pub item_path : List ℕ → ℕ → List ℕ
item_path path k = path ++ codes "[" ++ decimal k ++ codes "]"

-- what stands before the keys of the table at a path, as `component[0].`
abbrev pub inside : List ℕ → List ℕ
inside path = path ++ codes "."

-- ---- Forms

-- What a value or a table is asked to be: how it is read at its path, to what it stands for or its first fault; all its
-- faults, in order; and whether it has none.
pub record Form (D A : Type 0) : Type 0 where
  pub read : List ℕ → D → Result A DescFault
  pub faults : List ℕ → D → List DescFault
  pub fits : D → Bool

-- the fault of a reading, if there is one
abbrev pub fault_in : {A E : Type 0} → Result A E → List E
fault_in (Ok x) = []
fault_in (Err e) = e ∷ []

-- one value, read by this rule
abbrev pub one : {A : Type 0} → (Data → Result A Wrong) → Form Data A
one rule = record {
  read = λ path d. placed path (rule d);
  faults = λ path d. fault_in (placed path (rule d));
  fits = λ d. is_ok (rule d);
}

-- the items from the k-th on, after those found; the rule for an item may look at those before it
abbrev pub items_from : {A : Type 0} → (List A → Data → Result A Wrong) → List ℕ → ℕ → Items → List A
    → Result (List A) DescFault
items_from rule path k no_items found = Ok found
items_from rule path k (item d ds) found =
    placed (item_path path k) (rule found d) >>= λ x. items_from rule path (k + 1) ds (found ++ x ∷ [])

-- all faults of the items; one that is faulty is not among those before the next
abbrev pub item_faults : {A : Type 0} → (List A → Data → Result A Wrong) → List ℕ → ℕ → Items → List A → List DescFault
item_faults rule path k no_items found = []
item_faults rule path k (item d ds) found = elim (rule found d) [
  | Ok x ↦ item_faults rule path (k + 1) ds (found ++ x ∷ [])
  | Err w ↦ at (item_path path k) w ∷ item_faults rule path (k + 1) ds found
]

-- every item has its form
abbrev pub items_fit : {A : Type 0} → (List A → Data → Result A Wrong) → Items → List A → Bool
items_fit rule no_items found = true
items_fit rule (item d ds) found = elim (rule found d) [ Ok x ↦ items_fit rule ds (found ++ x ∷ []) | Err w ↦ false ]

-- a list, its items read by this rule
abbrev pub list_read : {A : Type 0} → (List A → Data → Result A Wrong) → List ℕ → Data → Result (List A) DescFault
list_read rule path (array ds) = items_from rule path 0 ds []
list_read rule path _ = Err (BadValue path)

-- its faults: another value is one
abbrev pub list_faults : {A : Type 0} → (List A → Data → Result A Wrong) → List ℕ → Data → List DescFault
list_faults rule path (array ds) = item_faults rule path 0 ds []
list_faults rule path _ = BadValue path ∷ []

-- whether it is such a list
abbrev pub list_fits : {A : Type 0} → (List A → Data → Result A Wrong) → Data → Bool
list_fits rule (array ds) = items_fit rule ds []
list_fits rule _ = false

-- a list whose items may look at those before them
abbrev pub list_after : {A : Type 0} → (List A → Data → Result A Wrong) → Form Data (List A)
list_after rule = record { read = list_read rule; faults = list_faults rule; fits = list_fits rule }

-- a list, each item by this rule
abbrev pub list_of : {A : Type 0} → (Data → Result A Wrong) → Form Data (List A)
list_of rule = list_after (λ found. rule)

-- ---- Lists of tables

-- the tables from the k-th on, after those found; an item that is no table is bad in its turn
abbrev pub tables_from : {A : Type 0} → Form Members A → List ℕ → ℕ → Items → List A → Result (List A) DescFault
tables_from form path k no_items found = Ok found
tables_from form path k (item (table ms) ds) found =
    form.read (inside (item_path path k)) ms >>= λ x. tables_from form path (k + 1) ds (found ++ x ∷ [])
tables_from form path k (item _ ds) found = Err (BadValue (item_path path k))

-- all their faults
abbrev pub tables_faults : {A : Type 0} → Form Members A → List ℕ → ℕ → Items → List DescFault
tables_faults form path k no_items = []
tables_faults form path k (item (table ms) ds) =
    form.faults (inside (item_path path k)) ms ++ tables_faults form path (k + 1) ds
tables_faults form path k (item _ ds) = BadValue (item_path path k) ∷ tables_faults form path (k + 1) ds

-- every item is a table of the form
abbrev pub tables_fit : {A : Type 0} → Form Members A → Items → Bool
tables_fit form no_items = true
tables_fit form (item (table ms) ds) = form.fits ms && tables_fit form ds
tables_fit form (item _ ds) = false

-- an array of tables
abbrev pub array_read : {A : Type 0} → Form Members A → List ℕ → Data → Result (List A) DescFault
array_read form path (array ds) = tables_from form path 0 ds []
array_read form path _ = Err (BadValue path)

-- its faults: another value is one
abbrev pub array_faults : {A : Type 0} → Form Members A → List ℕ → Data → List DescFault
array_faults form path (array ds) = tables_faults form path 0 ds
array_faults form path _ = BadValue path ∷ []

-- whether it is such an array
abbrev pub array_fits : {A : Type 0} → Form Members A → Data → Bool
array_fits form (array ds) = tables_fit form ds
array_fits form _ = false

-- an array, each item a table of this form; inline tables and `[[..]]` alike
abbrev pub tables_of : {A : Type 0} → Form Members A → Form Data (List A)
tables_of form = record { read = array_read form; faults = array_faults form; fits = array_fits form }

-- ---- A list of states, or all of them

-- a list of joint interfaces, or the text `all`, which stands for these
abbrev pub all_or_read : List IfaceName → List ℕ → Data → Result (List IfaceName) DescFault
all_or_read states path (string text) = if same_key text (codes "all") then Ok states else Err (BadValue path)
all_or_read states path d = list_read (λ found. state_in) path d

-- the faults of such a value: another text is one
abbrev pub all_or_faults : List ℕ → Data → List DescFault
all_or_faults path (string text) = if same_key text (codes "all") then [] else BadValue path ∷ []
all_or_faults path d = list_faults (λ found. state_in) path d

-- whether it is such a value
abbrev pub all_or_fits : Data → Bool
all_or_fits (string text) = same_key text (codes "all")
all_or_fits d = list_fits (λ found. state_in) d

-- the text `all` for these states, or a list of states
abbrev pub all_or_list : List IfaceName → Form Data (List IfaceName)
all_or_list states = record { read = all_or_read states; faults = all_or_faults; fits = all_or_fits }
