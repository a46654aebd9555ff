-- What a description must meet besides its form, in the order in which a fault counts: counts, names, ranges,
-- interfaces, fallbacks, members, loops.
use Rattle.std.specs.Prelude.{◌≡◌, ℕ, ◌+◌, ℤ, pos, int_le, Bool, true, not, ◌&&◌, nat_lt, nat_le, ◌==◌, if◌then◌else◌}
use Rattle.std.specs.Prelude.{List, [], ◌∷◌, ◌++◌, length, sum_by, map, codes, slice_get, Option, Some, None, Result}
use Rattle.std.specs.Prelude.{Ok, Err}
use Rattle.std.specs.List.{list_any, list_all, find}
use Rattle.std.specs.Option.{option_map_or}
use Rattle.toml.specs.Data.{Members}
use Rattle.iface_names.specs.Names.{same_name}
use Rattle.iface_names.specs.Interfaces.{same_interface, same_kind, interface_text}
use Rattle.iface_names.specs.declared.interface.IfaceName.{IfaceName}
use Rattle.cm_document.specs.declared.limits.TheConstants.{HIGHEST_RATE, MOST_CYCLES, MOST_FALLBACKS, MOST_MEMBERS}
use Rattle.iface_names.specs.declared.kind.Kind.{Kind}
use Rattle.cm_document.specs.Reading.{◌>>=◌}
use Rattle.cm_document.specs.Forms.{item_path, inside}
use Rattle.cm_document.specs.Described.{states_of, description_form}
use Rattle.cm_document.specs.Limits.{is_version, limits_of}
use Rattle.cm_document.specs.Params.{Bounded, fewest_claims, most_claims, reads_beside, limits_at}
use Rattle.cm_document.specs.Params.{kind_at, claimed_kind, read_kind, may_carry}
use Rattle.cm_document.specs.Links.{joints_of, commands_of, references_of, is_among, first_in_loop}
use Rattle.cm_document.specs.declared.description.CompDesc.{CompDesc}
use Rattle.cm_document.specs.declared.description.CompKind.{CompKind}
use Rattle.cm_document.specs.declared.description.CompKind.TheVariants.{Sensor, Actuator}
use Rattle.cm_document.specs.declared.description.CtlDesc.{CtlDesc}
use Rattle.cm_document.specs.declared.description.Description.{Description}
use Rattle.cm_document.specs.declared.description.GroupDesc.{GroupDesc}
use Rattle.cm_document.specs.declared.description.JointDesc.{JointDesc}
use Rattle.cm_document.specs.declared.description.Params.{Params}
use Rattle.cm_document.specs.declared.faults.CheckFault.{CheckFault}
use Rattle.cm_document.specs.declared.faults.CheckFault.TheVariants.{TooMany, NameTwice, BadRange, NoInterface}
use Rattle.cm_document.specs.declared.faults.CheckFault.TheVariants.{NoFallback, NoMember, ChainLoop}
use Rattle.cm_document.specs.declared.faults.What.{What}
use Rattle.cm_document.specs.declared.faults.What.TheVariants.{Components, Joints, States, Commands, Controllers}
use Rattle.cm_document.specs.declared.faults.What.TheVariants.{References, Claims, Reads, Groups}

-- ---- Counts

-- how many of these there are, and how many there may be
abbrev pub limited : What → ℕ → ℕ → Result (Unit {0}) CheckFault
limited what number limit = if nat_lt limit number then Err (TooMany what) else Ok tt

-- none of the counts is above the limit of the version
abbrev pub few_enough : Description → Result (Unit {0}) CheckFault
few_enough d =
    limited Components (length d.components) (limits_of d.version).components >>= λ _.
    limited Joints (length (joints_of d.components)) (limits_of d.version).joints >>= λ _.
    limited States (length (states_of d.components)) (limits_of d.version).states >>= λ _.
    limited Commands (length (commands_of d.components)) (limits_of d.version).commands >>= λ _.
    limited Controllers (length d.controllers) (limits_of d.version).controllers >>= λ _.
    limited References (length (references_of d.controllers)) (limits_of d.version).references >>= λ _.
    limited Claims (sum_by (λ c. length c.claims) d.controllers) (limits_of d.version).claims >>= λ _.
    limited Reads (sum_by (λ c. length c.reads) d.controllers) (limits_of d.version).reads >>= λ _.
    limited Groups (length d.groups) (limits_of d.version).groups

-- ---- Names

-- the first of these that stands among those seen or earlier in the list
abbrev pub repeated_after : {A : Type 0} → (A → A → Bool) → List A → List A → Option A
repeated_after same seen [] = None
repeated_after same seen (x ∷ xs) = if list_any (same x) seen then Some x else repeated_after same (seen ++ x ∷ []) xs

-- none of these stands twice: else the first that does is told by its text
abbrev pub apart : {A : Type 0} → (A → A → Bool) → (A → List ℕ) → List A → Result (Unit {0}) CheckFault
apart same text xs = elim (repeated_after same [] xs) [ None ↦ Ok tt | Some x ↦ Err (NameTwice (text x)) ]

-- names that differ
abbrev pub names_apart : List (List ℕ) → Result (Unit {0}) CheckFault
names_apart names = apart same_name (λ name. name) names

-- interfaces that differ
abbrev pub interfaces_apart : List IfaceName → Result (Unit {0}) CheckFault
interfaces_apart interfaces = apart same_interface interface_text interfaces

-- no controller claims an interface twice, reads one twice, or names a fallback twice
abbrev pub links_apart : List CtlDesc → Result (Unit {0}) CheckFault
links_apart [] = Ok tt
links_apart (c ∷ cs) =
    interfaces_apart c.claims >>= λ _.
    interfaces_apart c.reads >>= λ _.
    names_apart c.fallback >>= λ _.
    links_apart cs

-- no group names a member twice
abbrev pub members_apart : List GroupDesc → Result (Unit {0}) CheckFault
members_apart [] = Ok tt
members_apart (g ∷ gs) = names_apart g.members >>= λ _. members_apart gs

-- Components, joints, controllers and groups are each named in a space of their own; references, the links of a
-- controller and the members of a group differ too.
abbrev pub named_apart : Description → Result (Unit {0}) CheckFault
named_apart d =
    names_apart (map (λ c. c.name) d.components) >>= λ _.
    names_apart (map (λ j. j.name) (joints_of d.components)) >>= λ _.
    names_apart (map (λ c. c.name) d.controllers) >>= λ _.
    interfaces_apart (references_of d.controllers) >>= λ _.
    names_apart (map (λ g. g.name) d.groups) >>= λ _.
    links_apart d.controllers >>= λ _.
    members_apart d.groups

-- ---- Ranges, in the order of the walk

-- what stands at this path is within its range
abbrev pub ranged : Bool → List ℕ → Result (Unit {0}) CheckFault
ranged fits path = if fits then Ok tt else Err (BadRange path)

-- not below 0
abbrev pub not_negative : ℤ → Bool
not_negative z = int_le (pos 0) z

-- the ranges of each item of a list, at its path
abbrev pub each_ranged : {A : Type 0} → (List ℕ → A → Result (Unit {0}) CheckFault) → List ℕ → ℕ → List A
    → Result (Unit {0}) CheckFault
each_ranged rule key k [] = Ok tt
each_ranged rule key k (x ∷ xs) = rule (inside (item_path key k)) x >>= λ _. each_ranged rule key (k + 1) xs

-- a sensor takes no command
abbrev pub may_have : CompKind → JointDesc → Bool
may_have Sensor j = length j.commands == 0
may_have _ j = true

-- vmax, gain and damping are not negative
abbrev pub joint_ranged : CompKind → List ℕ → JointDesc → Result (Unit {0}) CheckFault
joint_ranged kind prefix j =
    ranged (not_negative j.vmax) (prefix ++ codes "vmax") >>= λ _.
    ranged (not_negative j.gain) (prefix ++ codes "gain") >>= λ _.
    ranged (not_negative j.damping) (prefix ++ codes "damping") >>= λ _.
    ranged (may_have kind j) (prefix ++ codes "command")

-- one joint at least, and of an actuator one at most
abbrev pub joint_count_fits : CompKind → ℕ → Bool
joint_count_fits Actuator count = count == 1
joint_count_fits _ count = nat_le 1 count

-- the number of joints, then each joint
abbrev pub component_ranged : List ℕ → CompDesc → Result (Unit {0}) CheckFault
component_ranged prefix c =
    ranged (joint_count_fits c.kind (length c.joints)) (prefix ++ codes "joint") >>= λ _.
    each_ranged (joint_ranged c.kind) (prefix ++ codes "joint") 0 c.joints

-- so many claims are as many as a controller with these parameters may have
abbrev pub claims_fit : Params → ℕ → Bool
claims_fit params count = nat_le (fewest_claims params) count && nat_le count (most_claims params)

-- and so many reads beside so many claims
abbrev pub reads_fit : Params → ℕ → ℕ → Bool
reads_fit params claims count = option_map_or (λ reads. count == reads) (reads_beside params claims) true

-- each of these interfaces is of this kind, if one is asked
abbrev pub are_all_of : Option Kind → List IfaceName → Bool
are_all_of asked interfaces =
    option_map_or (λ kind. list_all (λ interface. same_kind (kind_at interface) kind) interfaces) asked true

-- the claims carry what a controller with these parameters may claim
abbrev pub claims_carried : Params → List IfaceName → Bool
claims_carried params claims = may_carry params && are_all_of (claimed_kind params) claims

-- no number is below its least
abbrev pub is_bounded : Bounded → Bool
is_bounded each = int_le each.least each.number

-- none of these numbers is below its least: else the first that is below is told, at its key
abbrev pub all_bounded : List ℕ → List Bounded → Result (Unit {0}) CheckFault
all_bounded prefix [] = Ok tt
all_bounded prefix (each ∷ others) =
    ranged (is_bounded each) (prefix ++ each.key) >>= λ _. all_bounded prefix others

-- the key of the first of these numbers that is below its least
abbrev pub first_below : List Bounded → Option (List ℕ)
first_below [] = None
first_below (each ∷ others) = if is_bounded each then first_below others else Some each.key

-- no limit is below its least
abbrev pub limits_ranged : List ℕ → Params → Result (Unit {0}) CheckFault
limits_ranged prefix params = all_bounded prefix (limits_at params)

-- as many claims as its kind may have, of what it may claim; then the same of reads
abbrev pub links_ranged : List ℕ → CtlDesc → Result (Unit {0}) CheckFault
links_ranged prefix c =
    ranged (claims_fit c.params (length c.claims)) (prefix ++ codes "claims") >>= λ _.
    ranged (claims_carried c.params c.claims) (prefix ++ codes "claims") >>= λ _.
    ranged (reads_fit c.params (length c.claims) (length c.reads)) (prefix ++ codes "reads") >>= λ _.
    ranged (are_all_of (read_kind c.params) c.reads) (prefix ++ codes "reads")

-- the rate, the number of fallbacks, then what it claims and what it reads, and the limits
abbrev pub controller_ranged : List ℕ → CtlDesc → Result (Unit {0}) CheckFault
controller_ranged prefix c =
    ranged (nat_le c.rate HIGHEST_RATE) (prefix ++ codes "update_rate") >>= λ _.
    ranged (nat_le (length c.fallback) MOST_FALLBACKS) (prefix ++ codes "fallback") >>= λ _.
    links_ranged prefix c >>= λ _.
    limits_ranged prefix c.params

-- a group has from one to as many members as it may have
abbrev pub group_ranged : List ℕ → GroupDesc → Result (Unit {0}) CheckFault
group_ranged prefix g =
    ranged (nat_le 1 (length g.members) && nat_le (length g.members) MOST_MEMBERS) (prefix ++ codes "members")

-- the version, the rate, which is not 0, and the cycles; then the components, the controllers and the groups
abbrev pub in_range : Description → Result (Unit {0}) CheckFault
in_range d =
    ranged (is_version d.version) (codes "version") >>= λ _.
    ranged (nat_le 1 d.update_rate && nat_le d.update_rate HIGHEST_RATE) (codes "update_rate") >>= λ _.
    ranged (nat_le d.cycles MOST_CYCLES) (codes "cycles") >>= λ _.
    each_ranged component_ranged (codes "component") 0 d.components >>= λ _.
    each_ranged controller_ranged (codes "controller") 0 d.controllers >>= λ _.
    each_ranged group_ranged (codes "group") 0 d.groups

-- ---- Interfaces

-- what a controller may claim: the command interfaces of components, and the references of controllers
abbrev pub claimable : Description → List IfaceName
claimable d = commands_of d.components ++ references_of d.controllers

-- these are all among those that there are: else the first that is not is told with its controller
abbrev pub all_among : List IfaceName → List ℕ → List IfaceName → Result (Unit {0}) CheckFault
all_among there controller interfaces =
    elim (find (λ i. not (is_among i there)) interfaces) [ None ↦ Ok tt | Some i ↦ Err (NoInterface controller i) ]

-- controllers in order, of each its claims and then its reads
abbrev pub links_exist : List IfaceName → List IfaceName → List CtlDesc → Result (Unit {0}) CheckFault
links_exist commands states [] = Ok tt
links_exist commands states (c ∷ cs) =
    all_among commands c.name c.claims >>= λ _.
    all_among states c.name c.reads >>= λ _.
    links_exist commands states cs

-- ---- Fallbacks

-- a controller may stand in for another that is described
abbrev pub can_stand_in : List (List ℕ) → CtlDesc → List ℕ → Bool
can_stand_in described c name = list_any (same_name name) described && not (same_name name c.name)

-- each of its fallbacks can: else the first that cannot is told
abbrev pub stand_in : List (List ℕ) → CtlDesc → Result (Unit {0}) CheckFault
stand_in described c = elim (find (λ name. not (can_stand_in described c name)) c.fallback) [
  | None ↦ Ok tt
  | Some name ↦ Err (NoFallback c.name name)
]

-- so can the fallbacks of each of these controllers, in order
abbrev pub fallbacks_exist : List (List ℕ) → List CtlDesc → Result (Unit {0}) CheckFault
fallbacks_exist described [] = Ok tt
fallbacks_exist described (c ∷ cs) = stand_in described c >>= λ _. fallbacks_exist described cs

-- ---- Members

-- the members of a group are described: else the first that is not is told
abbrev pub are_described : List (List ℕ) → GroupDesc → Result (Unit {0}) CheckFault
are_described described g = elim (find (λ name. not (list_any (same_name name) described)) g.members) [
  | None ↦ Ok tt
  | Some name ↦ Err (NoMember g.name name)
]

-- so are those of each of these groups, in order
abbrev pub members_exist : List (List ℕ) → List GroupDesc → Result (Unit {0}) CheckFault
members_exist described [] = Ok tt
members_exist described (g ∷ gs) = are_described described g >>= λ _. members_exist described gs

-- ---- Loops

-- the name of the controller at a place
abbrev pub name_at : List CtlDesc → ℕ → List ℕ
name_at controllers place = elim (slice_get controllers place) [ Some c ↦ c.name | None ↦ [] ]

-- no controller precedes itself at some distance: else the first that does is told
abbrev pub loop_free : List CtlDesc → Result (Unit {0}) CheckFault
loop_free controllers =
    elim (first_in_loop controllers) [ None ↦ Ok tt | Some place ↦ Err (ChainLoop (name_at controllers place)) ]

-- ---- All of them

-- the description, where it is valid, or its first fault
unfoldable pub valid : Description → Result Description CheckFault
valid d =
    few_enough d >>= λ _.
    named_apart d >>= λ _.
    in_range d >>= λ _.
    links_exist (claimable d) (states_of d.components) d.controllers >>= λ _.
    fallbacks_exist (map (λ c. c.name) d.controllers) d.controllers >>= λ _.
    members_exist (map (λ c. c.name) d.controllers) d.groups >>= λ _.
    loop_free d.controllers >>= λ _.
    Ok d

-- a tree stands for the description
abbrev pub IsDescribed : Description → Type 0
IsDescribed d = (ms : Members) × (description_form.read [] ms ≡ Ok d)

-- A valid description is one that a tree stands for, and that has no fault.
pub record IsValid (d : Description) : Type 0 where
  pub described : IsDescribed d
  pub no_fault : valid d ≡ Ok d
