-- What is known of each value that a walk reads.
use Rattle.std.proofs.Common.{◌≡◌, ℕ, ◌+◌, ◌^◌, ℤ, pos, negsuc, List, [], ◌∷◌, ◌++◌, Option}
use Rattle.std.proofs.Common.{Some, None, Result, Ok, Err, ◌⊎◌, inl, inr, arith, refl}
use Rattle.std.specs.Prelude.{IfOk, codes, nat_lt, int_le, ◌&&◌, neg_ℤ, ◌*ℤ◌}
use Rattle.std.specs.List.{AllByRecursion}
use Rattle.std.proofs.lemmas.Bool.{cond_both, ltb-true, and_parts}
use Rattle.std.proofs.lemmas.Int.{ints}
use Rattle.toml.specs.Data.{Data, string, integer, array, Items, no_items, item, same_key}
use Rattle.fixed_num.specs.Micro.{IsInRange, units}
use Rattle.fixed_num.specs.Text.{number_of}
use Rattle.fixed_num.specs.declared.TheConstants.{MICRO, MOST_UNITS}
use Rattle.fixed_num.proofs.ReadBackLemmas.{number_of_small}
use Rattle.iface_names.specs.Interfaces.{interface_of, interface_of_parts, interface_parts}
use Rattle.iface_names.specs.Interfaces.{joint_of, reference_of, kind_named}
use Rattle.iface_names.specs.Names.{is_name, same_name}
use Rattle.iface_names.specs.declared.interface.IfaceName.{IfaceName}
use Rattle.iface_names.specs.declared.interface.IfaceName.TheVariants.{Joint, Reference}
use Rattle.iface_names.specs.declared.kind.Kind.{Kind}
use Rattle.iface_names.specs.declared.name.NameFault.TheVariants.{BadName}
use Rattle.sequence.proofs.ListLemmas.{all_append}
use Rattle.cm_document.specs.Vocabulary.{listed, lives_on_error}
use Rattle.cm_document.specs.Forms.{placed, item_path, one, where_some, or_bad, whole_in}
use Rattle.cm_document.specs.Forms.{quantity_in, name_in, word_in, interface_in, of_joint, state_in}
use Rattle.cm_document.specs.Forms.{items_from, list_read, list_of, all_or_read, all_or_list}
use Rattle.cm_document.specs.declared.faults.DescFault.TheVariants.{BadValue}
use Rattle.cm_document.specs.declared.faults.Wrong.{Wrong}
use Rattle.cm_document.specs.declared.faults.Wrong.TheVariants as wrong
use Rattle.cm_document.specs.declared.life.Life.{Life}
use Rattle.cm_document.specs.declared.life.Life.TheVariants.{Unconfigured, Finalized}
use Rattle.cm_document.proofs.GivenLemmas.{Gives}
use Rattle.cm_document.proofs.ReadingLemmas.{bind_keeps}
use Rattle.cm_document.specs.Given.{IsName, IsWhole, AreWholes, IsNamed, IsOfJoint}

-- ---- From a rule to its forms

-- whatever this rule reads has the property
record Keeps {A : Type 0} (rule : Data → Result A Wrong) (P : A → Type 0) : Type 0 where
  pub kept : (d : Data) → IfOk (rule d) P

-- a place changes nothing of a value that is read
placed_keeps : {A : Type 0} (path : List ℕ) (r : Result A Wrong) (P : A → Type 0) → IfOk r P → IfOk (placed path r) P
placed_keeps path (Ok x) P holds = holds
placed_keeps path (Err w) P holds = tt

-- one value
one_gives : {A : Type 0} (rule : Data → Result A Wrong) (P : A → Type 0) → Keeps rule P → Gives (one rule).read P
one_gives rule P keeps = record { given = λ path d. placed_keeps path (rule d) P (keeps.kept d) }

items_keep : {A : Type 0} (rule : Data → Result A Wrong) (P : A → Type 0) → Keeps rule P
    → (path : List ℕ) (k : ℕ) (ds : Items) (found : List A)
    → AllByRecursion P found → IfOk (items_from (λ before. rule) path k ds found) (AllByRecursion P)
items_keep rule P keeps path k no_items found all = all
items_keep rule P keeps path k (item d ds) found all =
    bind_keeps P (AllByRecursion P) (placed (item_path path k) (rule d)) _
    (placed_keeps (item_path path k) (rule d) P (keeps.kept d))
    (λ x holds. items_keep rule P keeps path (k + 1) ds (found ++ x ∷ []) (all_append P found (x ∷ []) all (holds, tt)))

list_keeps : {A : Type 0} (rule : Data → Result A Wrong) (P : A → Type 0) → Keeps rule P → (path : List ℕ) (d : Data)
    → IfOk (list_read (λ before. rule) path d) (AllByRecursion P)
list_keeps rule P keeps path (array ds) = items_keep rule P keeps path 0 ds [] tt
list_keeps rule P keeps path _ = tt

-- a list
list_gives : {A : Type 0} (rule : Data → Result A Wrong) (P : A → Type 0) → Keeps rule P
    → Gives (list_of rule).read (AllByRecursion P)
list_gives rule P keeps = record { given = list_keeps rule P keeps }

-- ---- Names and wholes

name_kept : (d : Data) → IfOk (name_in d) IsName
name_kept (string text) = cond_both (is_name text) (Ok text) (Err wrong.Value) (λ r. IfOk r IsName) (λ is. is) (λ _. tt)
name_kept _ = tt

keeps_names : Keeps name_in IsName
keeps_names = record { kept = name_kept }

-- a name is one
pub name_gives : Gives (one name_in).read IsName
name_gives = one_gives name_in IsName keeps_names

-- names are
pub names_give : Gives (list_of name_in).read (AllByRecursion IsName)
names_give = list_gives name_in IsName keeps_names

whole_kept : (d : Data) → IfOk (whole_in d) IsWhole
whole_kept (integer (pos n)) =
    cond_both (nat_lt n (2 ^ 32)) (Ok n) (Err wrong.Value) (λ r. IfOk r IsWhole) (λ below. ltb-true n (2 ^ 32) below)
    (λ _. tt)
whole_kept (integer (negsuc n)) = tt
whole_kept _ = tt

keeps_wholes : Keeps whole_in IsWhole
keeps_wholes = record { kept = whole_kept }

-- a whole is one
pub whole_gives : Gives (one whole_in).read IsWhole
whole_gives = one_gives whole_in IsWhole keeps_wholes

-- wholes are
pub wholes_give : Gives (list_of whole_in).read AreWholes
wholes_give = list_gives whole_in IsWhole keeps_wholes

-- ---- Quantities

-- whole units are in the range
units_kept : (z : ℤ) → IfOk (where_some (units z)) IsInRange
units_kept z =
    cond_both (int_le (neg_ℤ (pos MOST_UNITS)) z && int_le z (pos MOST_UNITS)) (Some (z *ℤ pos MICRO)) None
    (λ o. IfOk (where_some o) IsInRange)
    (λ within. let both = and_parts (int_le (neg_ℤ (pos MOST_UNITS)) z) (int_le z (pos MOST_UNITS)) within in
    (omega (arith, ints, both.0, both.1), omega (arith, ints, both.0, both.1)))
    (λ _. tt)

-- so is a number that was read
number_kept : {E : Type 0} (r : Result ℤ E) → ((n : ℤ) → r ≡ Ok n → IsInRange n) → IfOk (or_bad r) IsInRange
number_kept (Ok n) within = within n refl
number_kept (Err e) within = tt

quantity_kept : (d : Data) → IfOk (quantity_in d) IsInRange
quantity_kept (integer z) = units_kept z
quantity_kept (string text) =
    number_kept (number_of text)
    (λ n read. let small = number_of_small text n read in (omega (arith, ints, small), omega (arith, ints, small)))
quantity_kept _ = tt

-- a quantity is in the range
pub quantity_gives : Gives (one quantity_in).read IsInRange
quantity_gives = one_gives quantity_in IsInRange (record { kept = quantity_kept })

-- ---- Interfaces

joint_kept : (joint : List ℕ) (kind : Option Kind) → IfOk (joint_of joint kind) IsNamed
joint_kept joint None = tt
joint_kept joint (Some kind) =
    cond_both (is_name joint) (Ok (Joint joint kind)) (Err BadName) (λ r. IfOk r IsNamed) (λ is. is) (λ _. tt)

reference_kept : (controller joint : List ℕ) (kind : Option Kind) → IfOk (reference_of controller joint kind) IsNamed
reference_kept controller joint None = tt
reference_kept controller joint (Some kind) =
    cond_both (is_name controller && is_name joint) (Ok (Reference controller joint kind)) (Err BadName)
    (λ r. IfOk r IsNamed)
    (λ both. and_parts (is_name controller) (is_name joint) both) (λ _. tt)

parts_kept : (ps : List (List ℕ)) → IfOk (interface_of_parts ps) IsNamed
parts_kept [] = tt
parts_kept (a ∷ []) = tt
parts_kept (joint ∷ word ∷ []) = joint_kept joint (kind_named word)
parts_kept (controller ∷ joint ∷ word ∷ []) = reference_kept controller joint (kind_named word)
parts_kept (a ∷ b ∷ c ∷ d ∷ ps) = tt

-- a text names an interface by names
named_kept : (text : List ℕ) → IfOk (interface_of text) IsNamed
unfolding interface_of
named_kept text = parts_kept (interface_parts text)

or_bad_keeps : {A E : Type 0} (r : Result A E) (P : A → Type 0) → IfOk r P → IfOk (or_bad r) P
or_bad_keeps (Ok x) P holds = holds
or_bad_keeps (Err e) P holds = tt

interface_kept : (d : Data) → IfOk (interface_in d) IsNamed
interface_kept (string text) = or_bad_keeps (interface_of text) IsNamed (named_kept text)
interface_kept _ = tt

-- interfaces are named by names
pub interfaces_give : Gives (list_of interface_in).read (AllByRecursion IsNamed)
interfaces_give = list_gives interface_in IsNamed (record { kept = interface_kept })

of_joint_kept : (interface : IfaceName) → IsNamed interface → IfOk (of_joint interface) IsOfJoint
of_joint_kept (Joint joint kind) named = named
of_joint_kept (Reference controller joint kind) named = tt

state_kept : (d : Data) → IfOk (state_in d) IsOfJoint
state_kept d = bind_keeps IsNamed IsOfJoint (interface_in d) _ (interface_kept d) of_joint_kept

-- states are of joints
pub states_give : Gives (list_of state_in).read (AllByRecursion IsOfJoint)
states_give = list_gives state_in IsOfJoint (record { kept = state_kept })

all_or_keeps : (states : List IfaceName) → AllByRecursion IsOfJoint states → (path : List ℕ) (d : Data)
    → IfOk (all_or_read states path d) (AllByRecursion IsOfJoint)
all_or_keeps states of_joints path (string text) =
    cond_both (same_key text (codes "all")) (Ok states) (Err (BadValue path)) (λ r. IfOk r (AllByRecursion IsOfJoint))
    (λ _. of_joints) (λ _. tt)
all_or_keeps states of_joints path d = list_keeps state_in IsOfJoint (record { kept = state_kept }) path d

-- so are all of them, if those that are described are
pub all_or_list_gives : (states : List IfaceName) → AllByRecursion IsOfJoint states
    → Gives (all_or_list states).read (AllByRecursion IsOfJoint)
all_or_list_gives states of_joints = record { given = all_or_keeps states of_joints }

-- ---- The state after a failure

-- a state that may be asked for after a failure
abbrev pub IsOnError : Life → Type 0
IsOnError life = (life ≡ Unconfigured) ⊎ (life ≡ Finalized)

-- what a word stands for is among the meanings
listed_keeps : {A : Type 0} (P : A → Type 0) (words : List (List ℕ × A)) (text : List ℕ)
    → AllByRecursion (λ row. P row.1) words → IfOk (where_some (listed words text)) P
listed_keeps P [] text all = tt
listed_keeps P ((word, meaning) ∷ words) text all =
    cond_both (same_name text word) (Some meaning) (listed words text) (λ o. IfOk (where_some o) P) (λ _. all.0)
    (λ _. listed_keeps P words text all.1)

on_error_kept : (d : Data) → IfOk (word_in lives_on_error d) IsOnError
on_error_kept (string text) = listed_keeps IsOnError lives_on_error text (inl refl, (inr refl, tt))
on_error_kept _ = tt

-- the state after a failure is one of two
pub on_error_gives : Gives (one (word_in lives_on_error)).read IsOnError
on_error_gives = one_gives (word_in lives_on_error) IsOnError (record { kept = on_error_kept })
