-- The tables of a description, one line a key, in the order in which the keys are visited, and the walk over the whole.
use Rattle.std.specs.Prelude.{ℕ, ℤ, pos, ◌==◌, Bool, true, false, if◌then◌else◌, List, [], ◌∷◌, ◌++◌}
use Rattle.std.specs.Prelude.{map, flat_map, codes, Option, Some, None, Result, Ok, Err}
use Rattle.std.specs.Str.{is_utf8}
use Rattle.std.specs.Option.{option_map_or}
use Rattle.toml.specs.Data.{Data, Members, get_member}
use Rattle.toml.specs.Parse.{parse_document}
use Rattle.fixed_num.specs.Micro.{largest}
use Rattle.fixed_num.specs.declared.TheConstants.{MICRO}
use Rattle.iface_names.specs.declared.interface.IfaceName.{IfaceName}
use Rattle.iface_names.specs.declared.interface.IfaceName.TheVariants.{Joint}
use Rattle.iface_names.specs.declared.kind.Kind.{Kind}
use Rattle.iface_names.specs.declared.kind.Kind.TheVariants.{Position}
use Rattle.cm_document.specs.Params.{claims_asked, reads_asked, made_of}
use Rattle.cm_document.specs.Reading.{◌>>=◌}
use Rattle.cm_document.specs.Vocabulary.{component_kinds, lives, lives_on_error, controller_kinds}
use Rattle.cm_document.specs.Forms.{Form, one, list_of, list_after, tables_of, all_or_list, whole_in, quantity_in}
use Rattle.cm_document.specs.Forms.{boolean_in, name_in, word_in, interface_in, state_in, kind_in}
use Rattle.cm_document.specs.Tables.{Table, filled, required, required_read, defaulted, ◌&◌, walk}
use Rattle.cm_document.specs.declared.description.CompDesc.{CompDesc}
use Rattle.cm_document.specs.declared.description.CompKind.{CompKind}
use Rattle.cm_document.specs.declared.description.CtlDesc.{CtlDesc}
use Rattle.cm_document.specs.declared.description.CtlKind.{CtlKind}
use Rattle.cm_document.specs.declared.description.CtlKind.TheVariants.{Forward, Passthrough, Pid, Trajectory}
use Rattle.cm_document.specs.declared.description.CtlKind.TheVariants.{Broadcaster, Mock, Transmission, Differential}
use Rattle.cm_document.specs.declared.description.CtlKind.TheVariants.{Limiter}
use Rattle.cm_document.specs.declared.description.Description.{Description}
use Rattle.cm_document.specs.declared.description.GroupDesc.{GroupDesc}
use Rattle.cm_document.specs.declared.description.JointDesc.{JointDesc}
use Rattle.cm_document.specs.declared.description.KeyAsked.{KeyAsked}
use Rattle.cm_document.specs.declared.description.KeyAsked.TheVariants.{NoKey, Optional, Listed, ListedOrAll}
use Rattle.cm_document.specs.declared.description.Params.{Params}
use Rattle.cm_document.specs.declared.description.Params.TheVariants as params
use Rattle.cm_document.specs.declared.faults.DescFault.{DescFault}
use Rattle.cm_document.specs.declared.faults.DescFault.TheVariants.{NotToml}
use Rattle.cm_document.specs.declared.life.Life.{Life}
use Rattle.cm_document.specs.declared.limits.TheConstants.{SECOND_VERSION}
use Rattle.cm_document.specs.declared.life.Life.TheVariants.{Unconfigured, Active}

-- ---- The tree

-- the table that the grammar of TOML 1.1 gives to the bytes; bytes that are not UTF-8 have none
unfoldable pub tree_of : List ℕ → Option Members
tree_of bytes = if is_utf8 bytes then parse_document bytes else None

-- ---- Joints

-- a joint of these values
abbrev pub a_joint : List ℕ → ℤ → ℤ → ℤ → ℤ → ℤ → List Kind → List Kind → JointDesc
a_joint name vmax gain damping position velocity commands states = record {
  name = name;
  vmax = vmax;
  gain = gain;
  damping = damping;
  position = position;
  velocity = velocity;
  commands = commands;
  states = states;
}

-- the keys of a joint
unfoldable pub joint_table : Table JointDesc
joint_table = filled a_joint
    & required (codes "name") (one name_in)
    & required (codes "vmax") (one quantity_in)
    & defaulted (codes "gain") (one quantity_in) (pos MICRO)
    & defaulted (codes "damping") (one quantity_in) (pos 0)
    & defaulted (codes "position") (one quantity_in) (pos 0)
    & defaulted (codes "velocity") (one quantity_in) (pos 0)
    & defaulted (codes "command") (list_after kind_in) []
    & defaulted (codes "state") (list_after kind_in) []

-- ---- Components

-- a component of these values
abbrev pub a_component : List ℕ → CompKind → Life → Life → List ℕ → List ℕ → List JointDesc → CompDesc
a_component name kind initial on_error fail_read fail_write joints = record {
  name = name;
  kind = kind;
  initial = initial;
  on_error = on_error;
  fail_read = fail_read;
  fail_write = fail_write;
  joints = joints;
}

-- the keys of a component
unfoldable pub component_table : Table CompDesc
component_table = filled a_component
    & required (codes "name") (one name_in)
    & required (codes "kind") (one (word_in component_kinds))
    & defaulted (codes "initial") (one (word_in lives)) Active
    & defaulted (codes "on_error") (one (word_in lives_on_error)) Unconfigured
    & defaulted (codes "fail_read") (list_of whole_in) []
    & defaulted (codes "fail_write") (list_of whole_in) []
    & required (codes "joint") (tables_of (walk joint_table))

-- the state interfaces of a joint, in the order of its list
abbrev pub states_of_joint : JointDesc → List IfaceName
states_of_joint j = map (Joint j.name) j.states

-- every state interface that these components have, in order
abbrev pub states_of : List CompDesc → List IfaceName
states_of components = flat_map (λ c. flat_map states_of_joint c.joints) components

-- ---- Controllers

-- what a controller of every type says of itself: its name, its rate and its fallbacks
pub record Headed : Type 0 where
  pub name : List ℕ
  pub rate : ℕ
  pub fallback : List (List ℕ)

-- a controller of these values
abbrev pub a_headed : Headed → List IfaceName → List IfaceName → Params → CtlDesc
a_headed head claims reads params = record {
  name = head.name;
  rate = head.rate;
  fallback = head.fallback;
  claims = claims;
  reads = reads;
  params = params;
}

-- a controller without fallbacks
abbrev pub a_controller : List ℕ → ℕ → List IfaceName → List IfaceName → Params → CtlDesc
a_controller name rate claims reads params =
    a_headed (record { name = name; rate = rate; fallback = [] }) claims reads params

-- the keys that a controller of every type has come first: its type says which others follow
abbrev pub common : {A : Type 0} → (Headed → A) → Table A
common make = filled (λ name type rate fallback. make (record { name = name; rate = rate; fallback = fallback }))
    & required (codes "name") (one name_in)
    & required (codes "type") (one (word_in controller_kinds))
    & defaulted (codes "update_rate") (one whole_in) 0
    & defaulted (codes "fallback") (list_of name_in) []

-- the key of a list of interfaces, by what is asked there: the form of the list, and the form where `all` may stand
abbrev pub links_key : KeyAsked → List ℕ → Form Data (List IfaceName) → Form Data (List IfaceName)
    → Table (List IfaceName)
links_key NoKey key list all = filled []
links_key Optional key list all = defaulted key list []
links_key Listed key list all = required key list
links_key ListedOrAll key list all = required key all

-- the key of its claims, for which `all` never stands
abbrev pub claims_key : CtlKind → Table (List IfaceName)
claims_key kind = links_key (claims_asked kind) (codes "claims") (list_of interface_in) (list_of interface_in)

-- the key of its reads; `all` stands for these states
abbrev pub reads_key : List IfaceName → CtlKind → Table (List IfaceName)
reads_key states kind = links_key (reads_asked kind) (codes "reads") (list_of state_in) (all_or_list states)

-- The keys that a type alone has give its own parameters. Those that its claims and reads tell are filled in behind.
abbrev pub own_keys : CtlKind → Table Params
own_keys Forward = filled (params.Forward 0)
own_keys Passthrough = filled (params.Passthrough 0)
own_keys Pid = filled params.Pid
    & defaulted (codes "kp") (one quantity_in) (pos 0)
    & defaulted (codes "ki") (one quantity_in) (pos 0)
    & defaulted (codes "kd") (one quantity_in) (pos 0)
    & defaulted (codes "imax") (one quantity_in) (pos 0)
    & defaulted (codes "omax") (one quantity_in) largest
own_keys Trajectory = filled (params.Trajectory 0)
own_keys Broadcaster = filled (params.Broadcaster 0)
own_keys Mock = filled (params.Mock 0)
    & defaulted (codes "refuse_config") (one boolean_in) false
    & defaulted (codes "not_ready") (list_of whole_in) []
    & defaulted (codes "fail_update") (list_of whole_in) []
own_keys Transmission = filled (params.Transmission Position)
    & required (codes "reduction") (one quantity_in)
    & defaulted (codes "offset") (one quantity_in) (pos 0)
own_keys Differential = filled (params.Differential Position)
    & required (codes "reduction1") (one quantity_in)
    & required (codes "reduction2") (one quantity_in)
    & defaulted (codes "offset1") (one quantity_in) (pos 0)
    & defaulted (codes "offset2") (one quantity_in) (pos 0)
own_keys Limiter = filled params.Limiter
    & required (codes "min") (one quantity_in)
    & required (codes "max") (one quantity_in)
    & required (codes "vmax") (one quantity_in)
    & required (codes "amax") (one quantity_in)

-- the keys of a controller by its type: its claims and reads come before its own
unfoldable pub controller_table : List IfaceName → CtlKind → Table CtlDesc
controller_table states kind =
    common (λ head claims reads own. a_headed head claims reads (made_of own claims reads))
    & claims_key kind
    & reads_key states kind
    & own_keys kind

-- the type of a controller, at its key
abbrev pub type_of : List ℕ → Members → Result CtlKind DescFault
type_of prefix ms =
    required_read (one (word_in controller_kinds)) (prefix ++ codes "type") (get_member (codes "type") ms)

-- Which keys a controller may have depends on its type, so that is looked at before all else: where it is missing or no
-- listed word, that is the controller's one fault.
abbrev pub controller_form : List IfaceName → Form Members CtlDesc
controller_form states = record {
  read = λ prefix ms. type_of prefix ms >>= λ kind. (walk (controller_table states kind)).read prefix ms;
  faults =
      λ prefix ms. elim (type_of prefix ms)
      [ Ok kind ↦ (walk (controller_table states kind)).faults prefix ms | Err e ↦ e ∷ [] ];
  fits = λ ms. elim (type_of [] ms) [ Ok kind ↦ (walk (controller_table states kind)).fits ms | Err e ↦ false ];
}

-- ---- The top

-- the key of the components
abbrev pub component_key : Table (List CompDesc)
component_key = defaulted (codes "component") (tables_of (walk component_table)) []

-- a description of these values, with groups
abbrev pub a_grouped : ℕ → ℕ → ℕ → List CompDesc → List CtlDesc → List GroupDesc → Description
a_grouped version update_rate cycles components controllers groups = record {
  version = version;
  update_rate = update_rate;
  cycles = cycles;
  components = components;
  controllers = controllers;
  groups = groups;
}

-- one without groups
abbrev pub a_description : ℕ → ℕ → ℕ → List CompDesc → List CtlDesc → Description
a_description version update_rate cycles components controllers =
    a_grouped version update_rate cycles components controllers []

-- a group of these values
abbrev pub a_group : List ℕ → List (List ℕ) → GroupDesc
a_group name members = record { name = name; members = members }

-- the keys of a group
unfoldable pub group_table : Table GroupDesc
group_table = filled a_group
    & required (codes "name") (one name_in)
    & required (codes "members") (list_of name_in)

-- the keys that the top table has in every version; `all` stands for these states
abbrev pub top_common : {A : Type 0} → (ℕ → ℕ → ℕ → List CompDesc → List CtlDesc → A) → List IfaceName → Table A
top_common make states = filled make
    & required (codes "version") (one whole_in)
    & required (codes "update_rate") (one whole_in)
    & required (codes "cycles") (one whole_in)
    & component_key
    & defaulted (codes "controller") (tables_of (controller_form states)) []

-- the keys of the top table: the second version has groups besides
unfoldable pub top_table : List IfaceName → Bool → Table Description
top_table states false = top_common a_description states
top_table states true =
    top_common a_grouped states & defaulted (codes "group") (tables_of (walk group_table)) []

-- the value is the whole 2
abbrev pub is_two : Data → Bool
is_two d = elim (whole_in d) [ Ok n ↦ n == SECOND_VERSION | Err e ↦ false ]

-- a tree is of the second version exactly where the whole 2 stands at its key
abbrev pub is_second : Members → Bool
is_second ms = option_map_or is_two (get_member (codes "version") ms) false

-- every state interface that a tree describes: those of its components, where these are read
unfoldable pub described_states : Members → List IfaceName
described_states ms = elim (component_key.form.read [] ms) [ Ok components ↦ states_of components | Err e ↦ [] ]

-- the form of the whole tree
unfoldable pub description_form : Form Members Description
description_form = record {
  read = λ prefix ms. (walk (top_table (described_states ms) (is_second ms))).read prefix ms;
  faults = λ prefix ms. (walk (top_table (described_states ms) (is_second ms))).faults prefix ms;
  fits = λ ms. (walk (top_table (described_states ms) (is_second ms))).fits ms;
}

-- the description that a tree is, or its first fault; no tree is no TOML
abbrev pub description_in : Option Members → Result Description DescFault
description_in None = Err NotToml
description_in (Some ms) = description_form.read [] ms

-- ---- What is wrong with a tree

-- all faults of a tree, in the order in which its keys are visited
abbrev pub all_faults : Members → List DescFault
all_faults ms = description_form.faults [] ms

-- whether a tree has the form of a description: no unlisted key, each required key, and at every key a value of the
-- form that is asked there
abbrev pub fits_description : Members → Bool
fits_description ms = description_form.fits ms
