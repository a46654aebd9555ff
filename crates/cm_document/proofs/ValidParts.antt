-- What is known of a valid description, part by part. Each check is a field here, and whoever needs one takes it from
-- here.
use Rattle.std.proofs.Common.{◌≡◌, ℕ, ◌<◌, ◌≤◌, ◌^◌, Bool, true, false, List, [], length, map}
use Rattle.std.proofs.Common.{Option, Some, None, Result, Ok, Err, refl, arith, inl, inr}
use Rattle.std.specs.Prelude.{nat_lt, nat_le, ◌==◌, ◌&&◌, if◌then◌else◌, codes, sum_by}
use Rattle.std.specs.Cmp.{IsEquivalence}
use Rattle.std.specs.List.{IsDistinct}
use Rattle.std.proofs.lemmas.Bool.{cases_Bool, ltb-false, leb-true, and_parts}
use Rattle.std.proofs.lemmas.Cmp.{nat_list_eq_equiv}
use Rattle.iface_names.specs.Interfaces.{same_interface, interface_text}
use Rattle.iface_names.specs.Names.{same_name}
use Rattle.iface_names.specs.Sameness.{same_interface-IsEquivalence}
use Rattle.iface_names.specs.declared.interface.IfaceName.{IfaceName}
use Rattle.cm_document.specs.Described.{states_of}
use Rattle.cm_document.specs.Limits.{is_version, limits_of}
use Rattle.cm_document.specs.Links.{joints_of, commands_of, references_of, first_in_loop}
use Rattle.cm_document.specs.Valid.{fallbacks_exist, members_exist, members_apart, group_ranged, limited}
use Rattle.cm_document.specs.Valid.{few_enough, repeated_after, apart, names_apart, interfaces_apart, links_apart}
use Rattle.cm_document.specs.Valid.{named_apart, ranged, each_ranged, component_ranged, controller_ranged, in_range}
use Rattle.cm_document.specs.Valid.{claimable, links_exist, name_at, loop_free, valid, IsValid}
use Rattle.cm_document.specs.declared.description.CtlDesc.{CtlDesc}
use Rattle.cm_document.specs.declared.description.Description.{Description}
use Rattle.cm_document.specs.declared.limits.VersionLimits.{VersionLimits}
use Rattle.cm_document.specs.declared.faults.CheckFault.{CheckFault}
use Rattle.cm_document.specs.declared.faults.CheckFault.TheVariants.{NameTwice, ChainLoop}
use Rattle.cm_document.specs.declared.faults.What.{What}
use Rattle.cm_document.specs.declared.faults.What.TheVariants.{Components, Joints, States, Commands}
use Rattle.cm_document.specs.declared.faults.What.TheVariants.{Controllers, References, Claims, Reads}
use Rattle.cm_document.specs.declared.limits.TheConstants.{SECOND_VERSION, LIMITS_1, LIMITS_2, MOST_GROUPS}
use Rattle.cm_document.specs.declared.limits.TheConstants.{HIGHEST_RATE, MOST_CYCLES, MOST_COMPONENTS, MOST_JOINTS}
use Rattle.cm_document.specs.declared.limits.TheConstants.{MOST_STATES, MOST_COMMANDS, MOST_CONTROLLERS}
use Rattle.cm_document.specs.declared.limits.TheConstants.{MOST_REFERENCES, MOST_CLAIMS, MOST_READS}
use Rattle.cm_document.proofs.DistinctLemmas.{repeated_after-IsDistinct}
use Rattle.cm_document.proofs.ReadingLemmas.{bind_Ok}

-- ---- The parts

-- of nothing are there more than there may be
pub record HasFew (d : Description) : Type 0 where
  pub components : length d.components ≤ MOST_COMPONENTS
  pub joints : length (joints_of d.components) ≤ MOST_JOINTS
  pub states : length (states_of d.components) ≤ MOST_STATES
  pub commands : length (commands_of d.components) ≤ MOST_COMMANDS
  pub controllers : length d.controllers ≤ MOST_CONTROLLERS
  pub references : length (references_of d.controllers) ≤ MOST_REFERENCES
  pub claims : sum_by (λ (c : CtlDesc). length c.claims) d.controllers ≤ MOST_CLAIMS
  pub reads : sum_by (λ (c : CtlDesc). length c.reads) d.controllers ≤ MOST_READS
  pub groups : length d.groups ≤ MOST_GROUPS

-- names differ
pub record NamesDiffer (d : Description) : Type 0 where
  pub components : IsDistinct same_name (map (λ c. c.name) d.components)
  pub joints : IsDistinct same_name (map (λ j. j.name) (joints_of d.components))
  pub controllers : IsDistinct same_name (map (λ c. c.name) d.controllers)
  pub references : IsDistinct same_interface (references_of d.controllers)
  pub groups : IsDistinct same_name (map (λ g. g.name) d.groups)
  pub links : links_apart d.controllers ≡ Ok tt
  pub members : members_apart d.groups ≡ Ok tt

-- numbers are within their ranges
pub record IsWithinRanges (d : Description) : Type 0 where
  pub version : is_version d.version ≡ true
  pub rate_is_some : 1 ≤ d.update_rate
  pub rate : d.update_rate ≤ HIGHEST_RATE
  pub cycles : d.cycles ≤ MOST_CYCLES
  pub components : each_ranged component_ranged (codes "component") 0 d.components ≡ Ok tt
  pub controllers : each_ranged controller_ranged (codes "controller") 0 d.controllers ≡ Ok tt
  pub groups : each_ranged group_ranged (codes "group") 0 d.groups ≡ Ok tt

-- Of a valid description:
pub record ValidParts (d : Description) : Type 0 where
  pub few : HasFew d
  pub names : NamesDiffer d
  pub ranges : IsWithinRanges d
  -- what is claimed can be claimed, and what is read can be read;
  pub links : links_exist (claimable d) (states_of d.components) d.controllers ≡ Ok tt
  -- each fallback is another described controller;
  pub fallbacks : fallbacks_exist (map (λ c. c.name) d.controllers) d.controllers ≡ Ok tt
  -- each member of a group is described;
  pub members : members_exist (map (λ c. c.name) d.controllers) d.groups ≡ Ok tt
  -- and no controller precedes itself at some distance.
  pub loop_free : first_in_loop d.controllers ≡ None

-- ---- What a check that passes says

-- what is within its limit is not above it
pub within_limit : (what : What) (number limit : ℕ) → limited what number limit ≡ Ok tt → number ≤ limit
within_limit what number limit e =
    elim (cases_Bool (nat_lt limit number)) [
      | inl above ↦ (let f = rw above at e in cc)
      | inr fails ↦ ltb-false limit number fails
    ]

-- what is within its range passes its test
pub in_range_passes : (fits : Bool) (path : List ℕ) → ranged fits path ≡ Ok tt → fits ≡ true
in_range_passes true path e = refl
in_range_passes false path e = cc

-- where no fault is told, none was found
pub none_told : {A : Type 0} (fault : A → CheckFault) (found : Option A)
    → ◌≡◌ {A = Result (Unit {0}) CheckFault} (elim found [ None ↦ Ok tt | Some x ↦ Err (fault x) ]) (Ok tt)
    → found ≡ None
none_told fault None e = refl
none_told fault (Some x) e = cc

-- what was found apart is distinct
apart-IsDistinct : {A : Type 0} (same : A → A → Bool) → IsEquivalence same → (text : A → List ℕ) (xs : List A)
    → apart same text xs ≡ Ok tt → IsDistinct same xs
unfolding IsDistinct
apart-IsDistinct same laws text xs e =
    repeated_after-IsDistinct same laws [] xs (none_told (λ x. NameTwice (text x)) (repeated_after same [] xs) e) tt

-- names that were found apart
names_apart-IsDistinct : (names : List (List ℕ)) → names_apart names ≡ Ok tt → IsDistinct same_name names
names_apart-IsDistinct names e = apart-IsDistinct same_name nat_list_eq_equiv (λ name. name) names e

-- interfaces that were found apart
pub interfaces_apart-IsDistinct : (names : List IfaceName) → interfaces_apart names ≡ Ok tt
    → IsDistinct same_interface names
interfaces_apart-IsDistinct names e =
    apart-IsDistinct same_interface same_interface-IsEquivalence interface_text names e

-- ---- Each part

-- no version has more than the most
pub record AreMost (limits : VersionLimits) : Type 0 where
  pub components : limits.components ≤ MOST_COMPONENTS
  pub joints : limits.joints ≤ MOST_JOINTS
  pub states : limits.states ≤ MOST_STATES
  pub commands : limits.commands ≤ MOST_COMMANDS
  pub controllers : limits.controllers ≤ MOST_CONTROLLERS
  pub references : limits.references ≤ MOST_REFERENCES
  pub claims : limits.claims ≤ MOST_CLAIMS
  pub reads : limits.reads ≤ MOST_READS
  pub groups : limits.groups ≤ MOST_GROUPS

-- and so of either
pub most : (second : Bool) → AreMost (if second then LIMITS_2 else LIMITS_1)
most true = record {
  components = omega arith;
  joints = omega arith;
  states = omega arith;
  commands = omega arith;
  controllers = omega arith;
  references = omega arith;
  claims = omega arith;
  reads = omega arith;
  groups = omega arith;
}
most false = record {
  components = omega arith;
  joints = omega arith;
  states = omega arith;
  commands = omega arith;
  controllers = omega arith;
  references = omega arith;
  claims = omega arith;
  reads = omega arith;
  groups = omega arith;
}

few_parts : (d : Description) → few_enough d ≡ Ok tt → HasFew d
few_parts d e =
    let limits = limits_of d.version in
    let all = most (d.version == SECOND_VERSION) in
    let components = bind_Ok (limited Components (length d.components) limits.components) _ tt e in
    let joints = bind_Ok (limited Joints (length (joints_of d.components)) limits.joints) _ tt components.2 in
    let states = bind_Ok (limited States (length (states_of d.components)) limits.states) _ tt joints.2 in
    let commands = bind_Ok (limited Commands (length (commands_of d.components)) limits.commands) _ tt states.2 in
    let controllers = bind_Ok (limited Controllers (length d.controllers) limits.controllers) _ tt commands.2 in
    let references =
    bind_Ok (limited References (length (references_of d.controllers)) limits.references) _ tt controllers.2 in
    let claims =
    bind_Ok (limited Claims (sum_by (λ (c : CtlDesc). length c.claims) d.controllers) limits.claims) _ tt
    references.2 in
    let reads = bind_Ok (limited Reads (sum_by (λ (c : CtlDesc). length c.reads) d.controllers) limits.reads) _ tt
    claims.2 in
    record {
      components = omega (arith, within_limit _ _ _ components.1, all.components);
      joints = omega (arith, within_limit _ _ _ joints.1, all.joints);
      states = omega (arith, within_limit _ _ _ states.1, all.states);
      commands = omega (arith, within_limit _ _ _ commands.1, all.commands);
      controllers = omega (arith, within_limit _ _ _ controllers.1, all.controllers);
      references = omega (arith, within_limit _ _ _ references.1, all.references);
      claims = omega (arith, within_limit _ _ _ claims.1, all.claims);
      reads = omega (arith, within_limit _ _ _ reads.1, all.reads);
      groups = omega (arith, within_limit _ _ _ reads.2, all.groups);
    }

name_parts : (d : Description) → named_apart d ≡ Ok tt → NamesDiffer d
name_parts d e =
    let components = bind_Ok (names_apart (map (λ c. c.name) d.components)) _ tt e in
    let joints = bind_Ok (names_apart (map (λ j. j.name) (joints_of d.components))) _ tt components.2 in
    let controllers = bind_Ok (names_apart (map (λ c. c.name) d.controllers)) _ tt joints.2 in
    let references = bind_Ok (interfaces_apart (references_of d.controllers)) _ tt controllers.2 in
    let groups = bind_Ok (names_apart (map (λ g. g.name) d.groups)) _ tt references.2 in
    let links = bind_Ok (links_apart d.controllers) _ tt groups.2 in
    record {
      components = names_apart-IsDistinct _ components.1;
      joints = names_apart-IsDistinct _ joints.1;
      controllers = names_apart-IsDistinct _ controllers.1;
      references = interfaces_apart-IsDistinct _ references.1;
      groups = names_apart-IsDistinct _ groups.1;
      links = links.1;
      members = links.2;
    }

range_parts : (d : Description) → in_range d ≡ Ok tt → IsWithinRanges d
range_parts d e =
    let version = bind_Ok (ranged (is_version d.version) (codes "version")) _ tt e in
    let rate = bind_Ok (ranged (nat_le 1 d.update_rate && nat_le d.update_rate HIGHEST_RATE) (codes "update_rate")) _ tt
    version.2 in
    let cycles = bind_Ok (ranged (nat_le d.cycles MOST_CYCLES) (codes "cycles")) _ tt rate.2 in
    let components = bind_Ok (each_ranged component_ranged (codes "component") 0 d.components) _ tt cycles.2 in
    let controllers = bind_Ok (each_ranged controller_ranged (codes "controller") 0 d.controllers) _ tt components.2 in
    let both = and_parts (nat_le 1 d.update_rate) (nat_le d.update_rate HIGHEST_RATE) (in_range_passes _ _ rate.1) in
    record {
      version = in_range_passes _ _ version.1;
      rate_is_some = leb-true 1 d.update_rate both.0;
      rate = leb-true d.update_rate HIGHEST_RATE both.1;
      cycles = leb-true d.cycles MOST_CYCLES (in_range_passes _ _ cycles.1);
      components = components.1;
      controllers = controllers.1;
      groups = controllers.2;
    }

-- ---- All of them

-- The parts of a description in which no check found a fault.
pub valid_parts : (d : Description) → valid d ≡ Ok d → ValidParts d
unfolding valid
valid_parts d e =
    let few = bind_Ok (few_enough d) _ d e in
    let names = bind_Ok (named_apart d) _ d few.2 in
    let ranges = bind_Ok (in_range d) _ d names.2 in
    let links = bind_Ok (links_exist (claimable d) (states_of d.components) d.controllers) _ d ranges.2 in
    let fallbacks = bind_Ok (fallbacks_exist (map (λ (c : CtlDesc). c.name) d.controllers) d.controllers) _ d links.2 in
    let members = bind_Ok (members_exist (map (λ (c : CtlDesc). c.name) d.controllers) d.groups) _ d fallbacks.2 in
    let loops = bind_Ok (loop_free d.controllers) _ d members.2 in
    record {
      few = few_parts d few.1;
      names = name_parts d names.1;
      ranges = range_parts d ranges.1;
      links = links.1;
      fallbacks = fallbacks.1;
      members = members.1;
      loop_free = none_told (λ place. ChainLoop (name_at d.controllers place)) (first_in_loop d.controllers) loops.1;
    }

-- The parts of a valid description.
pub parts_of_valid : (d : Description) → IsValid d → ValidParts d
parts_of_valid d ok = valid_parts d ok.no_fault

-- the place of a controller has 32 bits
pub few_controllers : (d : Description) → IsValid d → length d.controllers < 2 ^ 32
few_controllers d ok = omega (arith, (parts_of_valid d ok).few.controllers)

-- the place of a component has 32 bits
pub few_components : (d : Description) → IsValid d → length d.components < 2 ^ 32
few_components d ok = omega (arith, (parts_of_valid d ok).few.components)

-- its update rate is not 0
pub described_rate_is_some : (d : Description) → IsValid d → 1 ≤ d.update_rate
described_rate_is_some d ok = (parts_of_valid d ok).ranges.rate_is_some
