-- The table that a description is printed as: every key with its value, but no list that is empty.
use Rattle.std.specs.Prelude.{ℕ, ℤ, pos, Bool, List, [], ◌∷◌, ◌++◌, map, codes, Option, Some, None}
use Rattle.std.specs.Ordering.{nat_cmp, match_ordering}
use Rattle.std.specs.Cmp.Lexicographic.{slice_cmp}
use Rattle.toml.specs.Data.{Data, string, integer, boolean, array, table, Items, no_items, item}
use Rattle.toml.specs.Data.{Members, no_members, member}
use Rattle.toml.specs.View.{items_of}
use Rattle.fixed_num.specs.Text.{spelled}
use Rattle.iface_names.specs.Interfaces.{interface_text, kind_word}
use Rattle.iface_names.specs.declared.interface.IfaceName.{IfaceName}
use Rattle.iface_names.specs.declared.kind.Kind.{Kind}
use Rattle.cm_document.specs.Params.{kind_of, reads_asked, flags, quantities, cycle_lists}
use Rattle.cm_document.specs.Vocabulary.{component_word, controller_word, life_word}
use Rattle.cm_document.specs.declared.description.CompDesc.{CompDesc}
use Rattle.cm_document.specs.declared.description.CtlDesc.{CtlDesc}
use Rattle.cm_document.specs.declared.description.Description.{Description}
use Rattle.cm_document.specs.declared.description.GroupDesc.{GroupDesc}
use Rattle.cm_document.specs.declared.description.JointDesc.{JointDesc}
use Rattle.cm_document.specs.declared.description.KeyAsked.{KeyAsked}
use Rattle.cm_document.specs.declared.description.KeyAsked.TheVariants.{ListedOrAll}
use Rattle.cm_document.specs.declared.description.Params.{Params}

-- ---- Tables

-- the members with this value at its key, in the order of the keys
abbrev pub with_member : List ℕ → Data → Members → Members
with_member key d no_members = member key d no_members
with_member key d (member other e ms) =
    match_ordering (slice_cmp nat_cmp key other) (member key d (member other e ms)) (member other d ms)
    (member other e (with_member key d ms))

-- a key, and what stands there if anything does
abbrev pub Row : Type 0
Row = List ℕ × Option Data

abbrev pub with_row : Row → Members → Members
with_row (key, None) ms = ms
with_row (key, Some d) ms = with_member key d ms

-- these rows are put in one after the other
abbrev pub with_rows : List Row → Members → Members
with_rows [] ms = ms
with_rows (row ∷ rows) ms = with_rows rows (with_row row ms)

-- the table of these rows
abbrev pub table_of : List Row → Members
table_of rows = with_rows rows no_members

-- ---- Values

-- an array of these items, if there are any
abbrev pub if_items : Items → Option Data
if_items no_items = None
if_items (item d ds) = Some (array (item d ds))

-- a list of values, if it is not empty
abbrev pub listed : {A : Type 0} → (A → Data) → List A → Option Data
listed value xs = if_items (items_of (map value xs))

abbrev pub whole : ℕ → Option Data
whole n = Some (integer (pos n))

abbrev pub quantity : ℤ → Option Data
quantity q = Some (string (spelled q))

abbrev pub text : List ℕ → Option Data
text bytes = Some (string bytes)

abbrev pub names : List (List ℕ) → Option Data
names list = listed string list

abbrev pub kinds : List Kind → Option Data
kinds list = listed (λ kind. string (kind_word kind)) list

abbrev pub interfaces : List IfaceName → Option Data
interfaces list = listed (λ interface. string (interface_text interface)) list

abbrev pub cycles : List ℕ → Option Data
cycles list = listed (λ n. integer (pos n)) list

-- ---- Components

-- the rows of a joint
abbrev pub joint_rows : JointDesc → List Row
joint_rows j =
    (codes "name", text j.name)
    ∷ (codes "vmax", quantity j.vmax)
    ∷ (codes "gain", quantity j.gain)
    ∷ (codes "damping", quantity j.damping)
    ∷ (codes "position", quantity j.position)
    ∷ (codes "velocity", quantity j.velocity)
    ∷ (codes "command", kinds j.commands)
    ∷ (codes "state", kinds j.states) ∷ []

abbrev pub joint_tree : JointDesc → Members
joint_tree j = table_of (joint_rows j)

-- the rows of a component
abbrev pub component_rows : CompDesc → List Row
component_rows c =
    (codes "name", text c.name)
    ∷ (codes "kind", text (component_word c.kind))
    ∷ (codes "initial", text (life_word c.initial))
    ∷ (codes "on_error", text (life_word c.on_error))
    ∷ (codes "fail_read", cycles c.fail_read)
    ∷ (codes "fail_write", cycles c.fail_write)
    ∷ (codes "joint", listed (λ j. table (joint_tree j)) c.joints) ∷ []

abbrev pub component_tree : CompDesc → Members
component_tree c = table_of (component_rows c)

-- ---- Controllers

-- the rows that a controller of every type has
abbrev pub head_rows : CtlDesc → List Row
head_rows c =
    (codes "name", text c.name)
    ∷ (codes "type", text (controller_word (kind_of c.params)))
    ∷ (codes "update_rate", whole c.rate)
    ∷ (codes "fallback", names c.fallback)
    ∷ (codes "claims", interfaces c.claims) ∷ []

-- what stands for the interfaces that are read: where `all` may stand, a list also if there are none
abbrev pub reads_value : KeyAsked → List IfaceName → Option Data
reads_value ListedOrAll reads = Some (array (items_of (map (λ interface. string (interface_text interface)) reads)))
reads_value _ reads = interfaces reads

-- the row of its reads, by what is asked at their key
abbrev pub reads_row : KeyAsked → CtlDesc → Row
reads_row asked c = (codes "reads", reads_value asked c.reads)

-- a flag, a quantity or a list of cycles, each at its key
abbrev pub flag_row : List ℕ × Bool → Row
flag_row flag = (flag.0, Some (boolean flag.1))

abbrev pub quantity_row : List ℕ × ℤ → Row
quantity_row q = (q.0, quantity q.1)

abbrev pub cycles_row : List ℕ × List ℕ → Row
cycles_row list = (list.0, cycles list.1)

-- the rows of its parameters
abbrev pub params_rows : Params → List Row
params_rows p =
    map flag_row (flags p) ++ (map quantity_row (quantities p) ++ map cycles_row (cycle_lists p))

-- the rows of a controller
abbrev pub controller_rows : CtlDesc → List Row
controller_rows c = head_rows c ++ reads_row (reads_asked (kind_of c.params)) c ∷ params_rows c.params

abbrev pub controller_tree : CtlDesc → Members
controller_tree c = table_of (controller_rows c)

-- ---- The whole

-- the rows of a group
abbrev pub group_rows : GroupDesc → List Row
group_rows g = (codes "name", text g.name) ∷ (codes "members", names g.members) ∷ []

abbrev pub group_tree : GroupDesc → Members
group_tree g = table_of (group_rows g)

-- the rows of the top
abbrev pub description_rows : Description → List Row
description_rows d =
    (codes "version", whole d.version)
    ∷ (codes "update_rate", whole d.update_rate)
    ∷ (codes "cycles", whole d.cycles)
    ∷ (codes "component", listed (λ c. table (component_tree c)) d.components)
    ∷ (codes "controller", listed (λ c. table (controller_tree c)) d.controllers)
    ∷ (codes "group", listed (λ g. table (group_tree g)) d.groups) ∷ []

abbrev pub description_tree : Description → Members
description_tree d = table_of (description_rows d)
