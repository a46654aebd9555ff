-- A valid description, as one of the second version, can be read back.
use Rattle.std.proofs.Common.{◌≡◌, ℕ, ◌+◌, ◌≤◌, pos, Bool, true, false, List, [], ◌∷◌}
use Rattle.std.proofs.Common.{length, map, Result, Ok, Err, inl, refl, subst, arith}
use Rattle.std.specs.Prelude.{IfOk, codes, nat_le, flat_map}
use Rattle.std.specs.List.{AllByRecursion}
use Rattle.std.proofs.lemmas.Bool.{leb-true, eqb-true, and_parts}
use Rattle.std.proofs.lemmas.Int.{ints}
use Rattle.toml.specs.Data.{Data, Members}
use Rattle.fixed_num.specs.Micro.{IsInRange}
use Rattle.fixed_num.specs.declared.TheConstants.{MICRO}
use Rattle.iface_names.specs.declared.interface.IfaceName.{IfaceName}
use Rattle.iface_names.specs.declared.interface.IfaceName.TheVariants.{Joint}
use Rattle.iface_names.specs.declared.kind.Kind.{Kind}
use Rattle.sequence.proofs.ListLemmas.{all_append}
use Rattle.cm_document.specs.Forms.{Form, one, list_of, tables_of, all_or_list, item_path, inside}
use Rattle.cm_document.specs.Forms.{whole_in, quantity_in, name_in, word_in, interface_in, state_in}
use Rattle.cm_document.specs.Tables.{required, defaulted, walk}
use Rattle.cm_document.specs.Vocabulary.{lives_on_error}
use Rattle.cm_document.specs.Described.{a_joint, a_component, a_description, a_grouped, a_group, joint_table}
use Rattle.cm_document.specs.Described.{component_table, component_key, states_of_joint, states_of, links_key}
use Rattle.cm_document.specs.Described.{claims_key, reads_key, controller_table, controller_form, type_of}
use Rattle.cm_document.specs.Described.{group_table, top_table, described_states, is_second, description_form}
use Rattle.cm_document.specs.Given.{IsName, IsWhole, AreWholes, IsNamed, IsOfJoint, AreNumbers}
use Rattle.cm_document.specs.Params.{claims_asked, reads_asked, AreMadeOf}
use Rattle.cm_document.specs.Valid.{ranged, each_ranged, component_ranged, joint_count_fits}
use Rattle.cm_document.specs.Valid.{controller_ranged, claims_fit, reads_fit, links_ranged}
use Rattle.cm_document.specs.Valid.{claims_carried, group_ranged, IsDescribed, IsValid}
use Rattle.cm_document.specs.declared.description.CompDesc.{CompDesc}
use Rattle.cm_document.specs.declared.description.CompKind.{CompKind}
use Rattle.cm_document.specs.declared.description.CompKind.TheVariants.{Sensor, Actuator, System}
use Rattle.cm_document.specs.declared.description.CtlDesc.{CtlDesc}
use Rattle.cm_document.specs.declared.description.CtlKind.{CtlKind}
use Rattle.cm_document.specs.declared.description.Description.{Description}
use Rattle.cm_document.specs.declared.description.GroupDesc.{GroupDesc}
use Rattle.cm_document.specs.declared.description.JointDesc.{JointDesc}
use Rattle.cm_document.specs.declared.description.KeyAsked.{KeyAsked}
use Rattle.cm_document.specs.declared.description.KeyAsked.TheVariants.{NoKey, Optional, Listed, ListedOrAll}
use Rattle.cm_document.specs.declared.limits.TheConstants.{SECOND_VERSION, HIGHEST_RATE, MOST_FALLBACKS, MOST_MEMBERS}
use Rattle.cm_document.specs.declared.life.Life.{Life}
use Rattle.cm_document.specs.declared.life.Life.TheVariants.{Unconfigured}
use Rattle.cm_document.proofs.GivenLemmas.{Gives, filled_gives, next_key, any_key, required_gives}
use Rattle.cm_document.proofs.GivenLemmas.{defaulted_gives, walk_gives, tables_give, anything}
use Rattle.cm_document.proofs.KindLemmas.{KindsOnce, IsDescribed-DescribesOnce}
use Rattle.cm_document.proofs.OwnLemmas.{made_once, made_numbers}
use Rattle.cm_document.proofs.ReadingLemmas.{bind_keeps, bind_Ok}
use Rattle.cm_document.proofs.ValidParts.{in_range_passes, parts_of_valid}
use Rattle.cm_document.proofs.ValueLemmas.{name_gives, names_give, whole_gives, wholes_give, quantity_gives}
use Rattle.cm_document.proofs.ValueLemmas.{interfaces_give, states_give, all_or_list_gives, IsOnError, on_error_gives}
use Rattle.desc_text.proofs.OwnKeyLemmas.{own_give}
use Rattle.desc_text.specs.Readable.{JointIsReadable, ComponentIsReadable}
use Rattle.desc_text.specs.Readable.{ControllerIsReadable, GroupIsReadable, IsReadable}

-- ---- What a walk gives: components

-- what is known of a joint that was read: all but that its kinds differ
record JointIsRead (j : JointDesc) : Type 0 where
  pub named : IsName j.name
  pub vmax : IsInRange j.vmax
  pub gain : IsInRange j.gain
  pub damping : IsInRange j.damping
  pub position : IsInRange j.position
  pub velocity : IsInRange j.velocity

joint_gives : Gives joint_table.form.read JointIsRead
unfolding joint_table
joint_gives =
    any_key {A = List Kind} _ _ JointIsRead
    (any_key {A = List Kind} _ _ _
    (next_key _ _ IsInRange _
    (next_key _ _ IsInRange _
    (next_key _ _ IsInRange _
    (next_key _ _ IsInRange _
    (next_key _ _ IsInRange _
    (next_key _ _ IsName _
    (filled_gives a_joint _
    (λ name named vmax v gain g damping d position p velocity w commands states. record {
      named = named;
      vmax = v;
      gain = g;
      damping = d;
      position = p;
      velocity = w;
    }))
    (required_gives (codes "name") (one name_in) _ name_gives))
    (required_gives (codes "vmax") (one quantity_in) _ quantity_gives))
    (defaulted_gives (codes "gain") (one quantity_in) (pos MICRO) _ quantity_gives
    (omega (arith, ints), omega (arith, ints))))
    (defaulted_gives (codes "damping") (one quantity_in) (pos 0) _ quantity_gives
    (omega (arith, ints), omega (arith, ints))))
    (defaulted_gives (codes "position") (one quantity_in) (pos 0) _ quantity_gives
    (omega (arith, ints), omega (arith, ints))))
    (defaulted_gives (codes "velocity") (one quantity_in) (pos 0) _ quantity_gives
    (omega (arith, ints), omega (arith, ints)))))

-- and of a component: all but that it has a joint
record ComponentIsRead (c : CompDesc) : Type 0 where
  pub named : IsName c.name
  pub on_error : IsOnError c.on_error
  pub fail_read : AreWholes c.fail_read
  pub fail_write : AreWholes c.fail_write
  pub joints : AllByRecursion JointIsRead c.joints

component_gives : Gives component_table.form.read ComponentIsRead
unfolding component_table
component_gives =
    next_key _ _ (AllByRecursion JointIsRead) ComponentIsRead
    (next_key _ _ AreWholes _
    (next_key _ _ AreWholes _
    (next_key _ _ IsOnError _
    (any_key {A = Life} _ _ _
    (any_key {A = CompKind} _ _ _
    (next_key _ _ IsName _
    (filled_gives a_component _
    (λ name named kind initial on_error may fail_read r fail_write w joints are. record
    { named = named; on_error = may; fail_read = r; fail_write = w; joints = are }))
    (required_gives (codes "name") (one name_in) _ name_gives))))
    (defaulted_gives (codes "on_error") (one (word_in lives_on_error)) Unconfigured _ on_error_gives (inl refl)))
    (defaulted_gives (codes "fail_read") (list_of whole_in) [] _ wholes_give tt))
    (defaulted_gives (codes "fail_write") (list_of whole_in) [] _ wholes_give tt))
    (required_gives (codes "joint") (tables_of (walk joint_table)) _
    (tables_give (walk joint_table) _ (walk_gives joint_table _ joint_gives)))

components_give : Gives component_key.form.read (AllByRecursion ComponentIsRead)
components_give =
    defaulted_gives (codes "component") (tables_of (walk component_table)) [] _
    (tables_give (walk component_table) _ (walk_gives component_table _ component_gives)) tt

-- ---- The states that are described

-- the states of a named joint are of joints
states_of_named : (name : List ℕ) → IsName name → (kinds : List Kind)
    → AllByRecursion IsOfJoint (map (Joint name) kinds)
states_of_named name named [] = tt
states_of_named name named (kind ∷ kinds) = (named, states_of_named name named kinds)

states_of_joints : (joints : List JointDesc) → AllByRecursion JointIsRead joints
    → AllByRecursion IsOfJoint (flat_map states_of_joint joints)
states_of_joints [] all = tt
states_of_joints (j ∷ joints) all =
    all_append IsOfJoint (states_of_joint j) (flat_map states_of_joint joints)
    (states_of_named j.name all.0.named j.states) (states_of_joints joints all.1)

states_of_components : (components : List CompDesc) → AllByRecursion ComponentIsRead components
    → AllByRecursion IsOfJoint (states_of components)
states_of_components [] all = tt
states_of_components (c ∷ components) all =
    all_append IsOfJoint (flat_map states_of_joint c.joints) (states_of components)
    (states_of_joints c.joints all.0.joints) (states_of_components components all.1)

-- what was read of components has such states, and where nothing was read there are none
states_of_read : {E : Type 0} (r : Result (List CompDesc) E) → IfOk r (AllByRecursion ComponentIsRead)
    → AllByRecursion IsOfJoint (elim r [ Ok components ↦ states_of components | Err e ↦ [] ])
states_of_read (Ok components) all = states_of_components components all
states_of_read (Err e) all = tt

-- all that `all` stands for is of joints
described_states_are : (ms : Members) → AllByRecursion IsOfJoint (described_states ms)
unfolding described_states
described_states_are ms = states_of_read (component_key.form.read [] ms) (components_give.given [] ms)

-- ---- What a walk gives: controllers

-- what is known of a controller that was read
record ControllerIsRead (c : CtlDesc) : Type 0 where
  pub named : IsName c.name
  pub rate : IsWhole c.rate
  pub fallback : AllByRecursion IsName c.fallback
  pub claims : AllByRecursion IsNamed c.claims
  pub reads : AllByRecursion IsOfJoint c.reads
  pub made : AreMadeOf c.params c.claims c.reads
  pub numbers : AreNumbers c.params

-- the keys that every type has
abbrev name_key : Gives (required (codes "name") (one name_in)).form.read IsName
name_key = required_gives (codes "name") (one name_in) IsName name_gives

abbrev rate_key : Gives (defaulted (codes "update_rate") (one whole_in) 0).form.read IsWhole
rate_key = defaulted_gives (codes "update_rate") (one whole_in) 0 IsWhole whole_gives (omega arith)

abbrev fallback_key : Gives (defaulted (codes "fallback") (list_of name_in) []).form.read (AllByRecursion IsName)
fallback_key = defaulted_gives (codes "fallback") (list_of name_in) [] (AllByRecursion IsName) names_give tt

-- what is read at the key of a list of interfaces, whatever is asked there
links_give : (asked : KeyAsked) (key : List ℕ) (list all : Form Data (List IfaceName)) (P : List IfaceName → Type 0)
    → Gives list.read P → Gives all.read P → P []
    → Gives (links_key asked key list all).form.read P
links_give NoKey key list all P gives others none = filled_gives [] P none
links_give Optional key list all P gives others none = defaulted_gives key list [] P gives none
links_give Listed key list all P gives others none = required_gives key list P gives
links_give ListedOrAll key list all P gives others none = required_gives key all P others

-- the claims of a type are named by names
claims_give : (kind : CtlKind) → Gives (claims_key kind).form.read (AllByRecursion IsNamed)
claims_give kind =
    links_give (claims_asked kind) (codes "claims") (list_of interface_in) (list_of interface_in)
    (AllByRecursion IsNamed) interfaces_give interfaces_give tt

-- and its reads are of joints
reads_give : (states : List IfaceName) → AllByRecursion IsOfJoint states → (kind : CtlKind)
    → Gives (reads_key states kind).form.read (AllByRecursion IsOfJoint)
reads_give states all kind =
    links_give (reads_asked kind) (codes "reads") (list_of state_in) (all_or_list states) (AllByRecursion IsOfJoint)
    states_give (all_or_list_gives states all) tt

table_gives : (states : List IfaceName) → AllByRecursion IsOfJoint states → (kind : CtlKind)
    → Gives (controller_table states kind).form.read ControllerIsRead
unfolding controller_table
table_gives states all kind =
    next_key _ _ AreNumbers ControllerIsRead
    (next_key _ _ (AllByRecursion IsOfJoint) _ (next_key _ _ (AllByRecursion IsNamed) _
    (next_key _ _ (AllByRecursion IsName) _ (next_key _ _ IsWhole _ (any_key {A = CtlKind} _ _ _ (next_key _ _ IsName _
    (filled_gives _ _ (λ name named type rate small fallback are claims by_names reads of_joints own numbers. record {
      named = named;
      rate = small;
      fallback = are;
      claims = by_names;
      reads = of_joints;
      made = made_once own claims reads;
      numbers = made_numbers own claims reads numbers;
    })) name_key)) rate_key) fallback_key) (claims_give kind)) (reads_give states all kind))
    (own_give kind)

controller_gives : (states : List IfaceName) → AllByRecursion IsOfJoint states
    → Gives (controller_form states).read ControllerIsRead
controller_gives states all = record {
  given = λ prefix ms. bind_keeps (λ _. Unit {0}) ControllerIsRead (type_of prefix ms) _ (anything _)
      (λ kind _. (walk_gives (controller_table states kind) ControllerIsRead (table_gives states all kind)).given prefix
      ms);
}

-- ---- What a walk gives: the whole

-- what is known of a group that was read: all but that it has a member
record GroupIsRead (g : GroupDesc) : Type 0 where
  pub named : IsName g.name
  pub members : AllByRecursion IsName g.members

group_gives : Gives group_table.form.read GroupIsRead
unfolding group_table
group_gives =
    next_key _ _ (AllByRecursion IsName) GroupIsRead
    (next_key _ _ IsName _ (filled_gives a_group _ (λ name named members are. record { named = named; members = are }))
    name_key)
    (required_gives (codes "members") (list_of name_in) (AllByRecursion IsName) names_give)

-- what is known of a description that was read
record DescriptionIsRead (d : Description) : Type 0 where
  pub rate : IsWhole d.update_rate
  pub cycles : IsWhole d.cycles
  pub components : AllByRecursion ComponentIsRead d.components
  pub controllers : AllByRecursion ControllerIsRead d.controllers
  pub groups : AllByRecursion GroupIsRead d.groups

controllers_give : (states : List IfaceName) → AllByRecursion IsOfJoint states
    → Gives (defaulted (codes "controller") (tables_of (controller_form states)) []).form.read
    (AllByRecursion ControllerIsRead)
controllers_give states all =
    defaulted_gives (codes "controller") (tables_of (controller_form states)) [] _
    (tables_give (controller_form states) _ (controller_gives states all)) tt

top_gives : (states : List IfaceName) → AllByRecursion IsOfJoint states → (second : Bool)
    → Gives (top_table states second).form.read DescriptionIsRead
unfolding top_table
top_gives states all true =
    next_key _ _ (AllByRecursion GroupIsRead) DescriptionIsRead
    (next_key _ _ (AllByRecursion ControllerIsRead) _ (next_key _ _ (AllByRecursion ComponentIsRead) _
    (next_key _ _ IsWhole _ (next_key _ _ IsWhole _ (any_key {A = ℕ} _ _ _
    (filled_gives a_grouped _ (λ version update_rate r cycles c components are controllers can groups may.
    record { rate = r; cycles = c; components = are; controllers = can; groups = may })))
    (required_gives (codes "update_rate") (one whole_in) IsWhole whole_gives))
    (required_gives (codes "cycles") (one whole_in) IsWhole whole_gives)) components_give)
    (controllers_give states all))
    (defaulted_gives (codes "group") (tables_of (walk group_table)) [] _
    (tables_give (walk group_table) _ (walk_gives group_table _ group_gives)) tt)
top_gives states all false =
    next_key _ _ (AllByRecursion ControllerIsRead) DescriptionIsRead (next_key _ _ (AllByRecursion ComponentIsRead) _
    (next_key _ _ IsWhole _ (next_key _ _ IsWhole _ (any_key {A = ℕ} _ _ _
    (filled_gives a_description _ (λ version update_rate r cycles c components are controllers can.
    record { rate = r; cycles = c; components = are; controllers = can; groups = tt })))
    (required_gives (codes "update_rate") (one whole_in) IsWhole whole_gives))
    (required_gives (codes "cycles") (one whole_in) IsWhole whole_gives)) components_give) (controllers_give states all)

described_is_read : (d : Description) → IsDescribed d → DescriptionIsRead d
unfolding description_form
described_is_read d (ms, same) =
    subst (λ read. IfOk read DescriptionIsRead) same
    ((walk_gives (top_table (described_states ms) (is_second ms)) DescriptionIsRead
    (top_gives (described_states ms) (described_states_are ms) (is_second ms))).given [] ms)

-- ---- What the ranges give besides

-- a component has a joint
joints_some : (kind : CompKind) (n : ℕ) → joint_count_fits kind n ≡ true → 1 ≤ n
joints_some Actuator n fits = omega (arith, eqb-true n 1 fits)
joints_some Sensor n fits = leb-true 1 n fits
joints_some System n fits = leb-true 1 n fits

-- joints whose kinds differ
joints_can : (js : List JointDesc) → AllByRecursion JointIsRead js → AllByRecursion KindsOnce js
    → AllByRecursion JointIsReadable js
joints_can [] read once = tt
joints_can (j ∷ js) read once = (
  record {
    named = read.0.named;
    vmax = read.0.vmax;
    gain = read.0.gain;
    damping = read.0.damping;
    position = read.0.position;
    velocity = read.0.velocity;
    commands = once.0.commands;
    states = once.0.states;
  },
  joints_can js read.1 once.1,
)

components_can : (key : List ℕ) (k : ℕ) (cs : List CompDesc) → each_ranged component_ranged key k cs ≡ Ok tt
    → AllByRecursion ComponentIsRead cs
    → AllByRecursion (λ c. AllByRecursion KindsOnce c.joints) cs → AllByRecursion ComponentIsReadable cs
components_can key k [] passes all once = tt
components_can key k (c ∷ cs) passes all once =
    let here = bind_Ok (component_ranged (inside (item_path key k)) c) _ tt passes in
    let joints = bind_Ok (ranged (joint_count_fits c.kind (length c.joints)) _) _ tt here.1 in
    let read = all.0 in (
      record {
        named = read.named;
        on_error = read.on_error;
        fail_read = read.fail_read;
        fail_write = read.fail_write;
        some = joints_some c.kind (length c.joints) (in_range_passes _ _ joints.1);
        joints = joints_can c.joints read.joints once.0;
      },
      components_can key (k + 1) cs here.2 all.1 once.1,
    )

controllers_can : (key : List ℕ) (k : ℕ) (cs : List CtlDesc) → each_ranged controller_ranged key k cs ≡ Ok tt
    → AllByRecursion ControllerIsRead cs
    → AllByRecursion ControllerIsReadable cs
controllers_can key k [] passes all = tt
controllers_can key k (c ∷ cs) passes all =
    let here = bind_Ok (controller_ranged (inside (item_path key k)) c) _ tt passes in
    let rate = bind_Ok (ranged (nat_le c.rate HIGHEST_RATE) _) _ tt here.1 in
    let fallbacks = bind_Ok (ranged (nat_le (length c.fallback) MOST_FALLBACKS) _) _ tt rate.2 in
    let links = bind_Ok (links_ranged (inside (item_path key k)) c) _ tt fallbacks.2 in
    let claims = bind_Ok (ranged (claims_fit c.params (length c.claims)) _) _ tt links.1 in
    let carried = bind_Ok (ranged (claims_carried c.params c.claims) _) _ tt claims.2 in
    let reads = bind_Ok (ranged (reads_fit c.params (length c.claims) (length c.reads)) _) _ tt carried.2 in
    let read = all.0 in (
      record {
        named = read.named;
        rate = read.rate;
        fallback = read.fallback;
        claims = read.claims;
        reads = read.reads;
        fits = record {
          made = read.made;
          numbers = read.numbers;
          claims = in_range_passes _ _ claims.1;
          reads =
              in_range_passes _ _ reads.1;
        };
      },
      controllers_can key (k + 1) cs here.2 all.1,
    )

groups_can : (key : List ℕ) (k : ℕ) (gs : List GroupDesc) → each_ranged group_ranged key k gs ≡ Ok tt
    → AllByRecursion GroupIsRead gs → AllByRecursion GroupIsReadable gs
groups_can key k [] passes all = tt
groups_can key k (g ∷ gs) passes all =
    let here = bind_Ok (group_ranged (inside (item_path key k)) g) _ tt passes in
    let both = and_parts (nat_le 1 (length g.members)) (nat_le (length g.members) MOST_MEMBERS)
    (in_range_passes _ _ here.1) in
    let read = all.0 in (
      record { named = read.named; some = leb-true 1 (length g.members) both.0; members = read.members },
      groups_can key (k + 1) gs here.2 all.1,
    )

-- ---- All of it

-- A valid description, as one of the second version, is read back from its table.
pub valid_IsReadable : (d : Description) → IsValid d → IsReadable (record d { version = SECOND_VERSION })
valid_IsReadable d ok =
    let ranges = (parts_of_valid d ok).ranges in
    let read = described_is_read d ok.described in
    record {
      version = refl;
      rate = read.rate;
      cycles = read.cycles;
      components =
          components_can (codes "component") 0 d.components ranges.components read.components
          (IsDescribed-DescribesOnce d ok.described);
      controllers = controllers_can (codes "controller") 0 d.controllers ranges.controllers read.controllers;
      groups = groups_can (codes "group") 0 d.groups ranges.groups read.groups;
    }
