-- Controllers that can run together claim no two command interfaces of one joint: so what is claimed of a component can
-- be together.
use Rattle.std.proofs.Common.{◌≡◌, ℕ, zero, suc, ◌+◌, Bool, true, false, List, [], ◌∷◌, ◌++◌, map}
use Rattle.std.proofs.Common.{length, take, drop, Option, Some, None, inl, inr, refl, sym, subst}
use Rattle.std.proofs.Common.{ap, ap₂, ◌∙◌, true≢false, arith, append_assoc, length-append}
use Rattle.std.specs.Prelude.{◌==◌, ◌&&◌, not, filter, find, option_map, slice_get, is_some}
use Rattle.std.specs.List.{AllByRecursion, list_any, range_with_len}
use Rattle.std.specs.Option.{option_map_or}
use Rattle.std.proofs.lemmas.Bool.{and_parts, and_from, eqb-true, eq-eqb}
use Rattle.std.proofs.lemmas.List.{map-append}
use Rattle.std.proofs.lemmas.Option.{slice_get-map}
use Rattle.std.proofs.lemmas.Slice.Eq.{bytes_eq-Decides}
use Rattle.iface_names.specs.Interfaces.{same_kind}
use Rattle.iface_names.specs.Names.{same_name}
use Rattle.iface_names.specs.declared.interface.IfaceName.{IfaceName}
use Rattle.iface_names.specs.declared.interface.IfaceName.TheVariants.{Joint}
use Rattle.iface_names.specs.declared.kind.Kind.{Kind}
use Rattle.iface_names.specs.declared.kind.Kind.TheVariants.{Position, Velocity, Effort}
use Rattle.cm_document.proofs.DistinctLemmas.{all_of, all_so}
use Rattle.cm_document.proofs.ReadingLemmas.{cases_Option}
use Rattle.cm_document.specs.Places.{Called, a_command, Interface, of_joint, at_joint}
use Rattle.cm_document.specs.Places.{at_joints, interfaces_of, called_in, EachStandsOnce}
use Rattle.cm_document.specs.declared.description.CompDesc.{CompDesc}
use Rattle.cm_document.specs.declared.description.JointDesc.{JointDesc}
use Rattle.cm_model.specs.Components.{interfaces_from, command_interfaces, stands_on, is_contested, mode_fault}
use Rattle.cm_model.specs.Cycle.{commands_at, is_claimed, claims_in}
use Rattle.cm_model.specs.Faults.{is_beside}
use Rattle.cm_model.specs.Scene.{claims_at}
use Rattle.cm_model.specs.Sound.{CanRunTogether}
use Rattle.cm_model.specs.State.{State, Loaded, is_active, active, claims_name, owner}
use Rattle.cm_model.specs.Values.{InterfaceValue}
use Rattle.cm_model.specs.declared.component.JointInterface.{JointInterface}
use Rattle.cm_hardware.specs.Wiring.{Mounted, commands_count}
use Rattle.cm_hardware.proofs.CommitJointLemmas.{Stands}
use Rattle.cm_hardware.proofs.CommitOwnerLemmas.{claims_alike, found_passes, find_none}

-- ---- What command interfaces are called

-- the command interface of a joint and kind, where there is such a joint
abbrev pub joint_called : List JointDesc → JointInterface → Option Called
joint_called js i = option_map (λ (j : JointDesc). a_command (Joint j.name i.kind)) (slice_get js i.joint)

joint_found : (pre js : List JointDesc) (j : JointDesc) → slice_get (pre ++ j ∷ js) (length pre) ≡ Some j
joint_found [] js j = refl
joint_found (p ∷ pre) js j = joint_found pre js j

called_kinds : (js : List JointDesc) (number component place : ℕ) (j : JointDesc) → slice_get js number ≡ Some j
    → (kinds : List Kind)
    → map (joint_called js) (map (λ kind. record { joint = number; kind = kind }) kinds)
    ≡ map (λ (i : Interface). Some i.called)
    (map (λ kind. record { called = a_command (Joint j.name kind); whose = of_joint component place }) kinds)
called_kinds js number component place j found [] = refl
called_kinds js number component place j found (kind ∷ kinds) =
    ap₂ (λ (x : Option Called) (xs : List (Option Called)). x ∷ xs)
    (ap (option_map (λ (j : JointDesc). a_command (Joint j.name kind))) found)
    (called_kinds js number component place j found kinds)

called_joints : (component place : ℕ) (pre js : List JointDesc)
    → map (joint_called (pre ++ js)) (interfaces_from (λ j. j.commands) (length pre) js)
    ≡ map (λ (i : Interface). Some i.called) (at_joints a_command (λ j. j.commands) component place js)
called_joints component place pre [] = refl
called_joints component place pre (j ∷ js) =
    let whole : pre ++ j ∷ js ≡ (pre ++ j ∷ []) ++ js = sym (append_assoc pre (j ∷ []) js) in
    let next : length pre + 1 ≡ length (pre ++ j ∷ []) = omega (arith, length-append pre (j ∷ [])) in
    map-append (joint_called (pre ++ j ∷ js)) (map (λ kind. record { joint = length pre; kind = kind }) j.commands)
    (interfaces_from (λ j. j.commands) (length pre + 1) js)
    ∙ ap₂ (λ (xs ys : List (Option Called)). xs ++ ys)
    (called_kinds (pre ++ j ∷ js) (length pre) component place j (joint_found pre js j) j.commands)
    (ap₂ (λ (all : List JointDesc) (n : ℕ). map (joint_called all) (interfaces_from (λ j. j.commands) n js)) whole next
    ∙ called_joints component (place + 1) (pre ++ j ∷ []) js)
    ∙ sym (map-append (λ (i : Interface). Some i.called) (at_joint a_command (λ j. j.commands) component place j)
    (at_joints a_command (λ j. j.commands) component (place + 1) js))

-- ---- Lists

-- what is there passes
some_or : {A : Type 0} (f : A → Bool) (o : Option A) → option_map_or f o false ≡ true
    → (x : A) × ((o ≡ Some x) × (f x ≡ true))
some_or f None passes = absurd (true≢false (sym passes))
some_or f (Some x) passes = (x, (refl, passes))

any_none : {A : Type 0} (f : A → Bool) (xs : List A) → AllByRecursion (λ x. f x ≡ false) xs → list_any f xs ≡ false
any_none f [] none = refl
any_none f (x ∷ xs) none = rw none.0 (any_none f xs none.1)

all_pass : {A : Type 0} (f : A → Bool) (xs : List A) → AllByRecursion (λ x. f x ≡ true) (filter f xs)
all_pass f [] = tt
all_pass f (x ∷ xs) = by_test (f x) refl (all_pass f xs)
  where
    by_test : (b : Bool) → f x ≡ b → AllByRecursion (λ x. f x ≡ true) (filter f xs)
        → AllByRecursion (λ x. f x ≡ true) (filter f (x ∷ xs))
    by_test true is rest = rw is (is, rest)
    by_test false is rest = rw is rest

from_take : {A : Type 0} (n : ℕ) (xs : List A) (k : ℕ) (x : A) → slice_get (take n xs) k ≡ Some x
    → slice_get xs k ≡ Some x
from_take zero xs k x found = cc
from_take (suc n) [] k x found = cc
from_take (suc n) (y ∷ xs) zero x found = found
from_take (suc n) (y ∷ xs) (suc k) x found = from_take n xs k x found

from_drop : {A : Type 0} (at : ℕ) (xs : List A) (k : ℕ) → slice_get (drop at xs) k ≡ slice_get xs (at + k)
from_drop zero xs k = let e : 0 + k ≡ k = omega arith in ap (slice_get xs) (sym e)
from_drop (suc at) [] k = let e : suc at + k ≡ suc (at + k) = omega arith in sym (ap (slice_get []) e)
from_drop (suc at) (x ∷ xs) k =
    let e : suc at + k ≡ suc (at + k) = omega arith in from_drop at xs k ∙ sym (ap (slice_get (x ∷ xs)) e)

kinds_same : (kind kind' : Kind) → same_kind kind kind' ≡ true → kind ≡ kind'
kinds_same Position Position same = refl
kinds_same Velocity Velocity same = refl
kinds_same Effort Effort same = refl
kinds_same Position Velocity same = cc
kinds_same Position Effort same = cc
kinds_same Velocity Position same = cc
kinds_same Velocity Effort same = cc
kinds_same Effort Position same = cc
kinds_same Effort Velocity same = cc

not_beside : (joint : List ℕ) (kind kind' : Kind) → is_beside (Joint joint kind) (Joint joint kind') ≡ false
    → kind ≡ kind'
not_beside joint kind kind' apart = by_test (same_kind kind kind') refl
  where
    by_test : (b : Bool) → same_kind kind kind' ≡ b → kind ≡ kind'
    by_test true same = kinds_same kind kind' same
    by_test false differ =
        absurd (true≢false
        (sym (and_from (same_name joint joint) (not (same_kind kind kind')) ((bytes_eq-Decides joint joint).1 refl)
        (rw differ refl)) ∙ apart))

-- ---- Claims of one component

-- an interface that has an owner is claimed by an active controller
pub record IsOwned (s : State) (name : IfaceName) : Type 0 where
  pub place : ℕ
  pub runs : active s place ≡ true
  pub claims : claims_at s.description.controllers place name ≡ true

-- an active controller claims it
abbrev claims_it : State → IfaceName → Loaded → Bool
claims_it s name l = is_active l && claims_name s.description.controllers name l

pub owned_by : (s : State) (i : Interface) → is_some (owner s i) ≡ true → IsOwned s i.called.name
owned_by s i has = by_side i.called.is_command refl
  where
    by_side : (b : Bool) → i.called.is_command ≡ b → IsOwned s i.called.name
    by_side false is =
        let free : owner s i ≡ None = rw is refl in
        absurd (true≢false (sym has ∙ ap (λ (o : Option ℕ). is_some o) free))
    by_side true is = elim (cases_Option (find (claims_it s i.called.name) s.loaded)) [
      | inl none ↦
          (let free : owner s i ≡ None = rw (is, none) refl in
          absurd (true≢false (sym has ∙ ap (λ (o : Option ℕ). is_some o) free)))
      | inr found ↦
          (let passes = found_passes (claims_it s i.called.name) s.loaded found.0 found.1 in
          let parts = and_parts (is_active found.0) (claims_name s.description.controllers i.called.name found.0)
          passes.0 in
          record {
            place = found.0.place;
            runs = passes.1 (λ (l : Loaded). is_active l && l.place == found.0.place)
                (and_from (is_active found.0) (found.0.place == found.0.place) parts.0
                (eq-eqb found.0.place found.0.place refl));
            claims = sym (claims_alike s.description.controllers i.called.name found.0) ∙ parts.1;
          })
    ]

module _ (s : State) (once : EachStandsOnce s.description)
    (described : map (λ (v : InterfaceValue). v.interface) s.values ≡ interfaces_of s.description)
    (together : CanRunTogether s.description s.lives (active s)) (at component place : ℕ) (m : Mounted)
    (stands : Stands s.values at component place m) where
  abbrev c : CompDesc
  c = m.hardware.description

  abbrev commands : List InterfaceValue
  commands = commands_at component s.values

  -- where a command interface stands in the description
  listed : (k : ℕ) (v : InterfaceValue) → slice_get commands k ≡ Some v
      → slice_get (called_in s.description) (at + k) ≡ Some v.interface.called
  listed k v found =
      let there : slice_get s.values (at + k) ≡ Some v =
      sym (from_drop at s.values k)
      ∙ from_take (commands_count m) (drop at s.values) k v
      (ap (λ (vs : List InterfaceValue). slice_get vs k) stands.here ∙ found) in
      ap (λ (is : List Interface). slice_get (map (λ (i : Interface). i.called) is) (at + k)) (sym described)
      ∙ slice_get-map (λ (i : Interface). i.called) (map (λ (v : InterfaceValue). v.interface) s.values) (at + k)
      ∙ ap (option_map (λ (i : Interface). i.called))
      (slice_get-map (λ (v : InterfaceValue). v.interface) s.values (at + k)
      ∙ ap (option_map (λ (v : InterfaceValue). v.interface)) there)

  -- what it is called, by its joint and kind
  called_so : (k : ℕ) (v : InterfaceValue) (i : JointInterface) → slice_get commands k ≡ Some v
      → slice_get (command_interfaces c) k ≡ Some i → joint_called c.joints i ≡ Some v.interface.called
  called_so k v i found numbered =
      let both : map (joint_called c.joints) (command_interfaces c)
      ≡ map (λ (x : Interface). Some x.called) (map (λ (v : InterfaceValue). v.interface) commands) =
      called_joints component place [] c.joints ∙ ap (map (λ (x : Interface). Some x.called)) (sym stands.called) in
      let one : Some (joint_called c.joints i) ≡ Some (Some v.interface.called) =
      sym (slice_get-map (joint_called c.joints) (command_interfaces c) k
      ∙ ap (option_map (joint_called c.joints)) numbered)
      ∙ ap (λ (xs : List (Option Called)). slice_get xs k) both
      ∙ slice_get-map (λ (x : Interface). Some x.called) (map (λ (v : InterfaceValue). v.interface) commands) k
      ∙ ap (option_map (λ (x : Interface). Some x.called))
      (slice_get-map (λ (v : InterfaceValue). v.interface) commands k
      ∙ ap (option_map (λ (v : InterfaceValue). v.interface)) found) in
      cc

  -- two that are called after one joint, and are claimed, are of one kind, and so one
  one_joint : (k k' : ℕ) (v v' : InterfaceValue) (i i' : JointInterface) → slice_get commands k ≡ Some v
      → slice_get commands k' ≡ Some v' → is_some (owner s v.interface) ≡ true → is_some (owner s v'.interface) ≡ true
      → i.joint ≡ i'.joint → (o : Option JointDesc) → slice_get c.joints i.joint ≡ o
      → joint_called c.joints i ≡ Some v.interface.called → joint_called c.joints i' ≡ Some v'.interface.called → k ≡ k'
  one_joint k k' v v' i i' found found' has has' same None joint called called' = let bad = rw joint at called in cc
  one_joint k k' v v' i i' found found' has has' same (Some j) joint called called' =
      let first : v.interface.called ≡ a_command (Joint j.name i.kind) = let e = rw joint at called in cc in
      let second : v'.interface.called ≡ a_command (Joint j.name i'.kind) = let e = rw (sym same, joint) at called' in
      cc in
      let one = owned_by s v.interface has in
      let other = owned_by s v'.interface has' in
      let kinds : i.kind ≡ i'.kind =
      not_beside j.name i.kind i'.kind
      (together.one_mode one.place other.place (Joint j.name i.kind) (Joint j.name i'.kind) one.runs other.runs
      (subst (λ (x : Called). claims_at s.description.controllers one.place x.name ≡ true) first one.claims)
      (subst (λ (x : Called). claims_at s.description.controllers other.place x.name ≡ true) second other.claims)) in
      let both : v.interface.called ≡ v'.interface.called =
      first ∙ ap (λ kind. a_command (Joint j.name kind)) kinds ∙ sym second in
      let places : at + k ≡ at + k' =
      once (at + k) (at + k') v'.interface.called (listed k v found ∙ ap (λ (x : Called). Some x) both)
      (listed k' v' found') in
      omega (arith, places)

  one_claim : (joint k k' : ℕ) → is_claimed s commands k ≡ true → is_claimed s commands k' ≡ true
      → stands_on (command_interfaces c) joint k ≡ true → stands_on (command_interfaces c) joint k' ≡ true → k ≡ k'
  one_claim joint k k' claimed claimed' on on' =
      let a = some_or (λ (v : InterfaceValue). is_some (owner s v.interface)) (slice_get commands k) claimed in
      let b = some_or (λ (v : InterfaceValue). is_some (owner s v.interface)) (slice_get commands k') claimed' in
      let x = some_or (λ (i : JointInterface). i.joint == joint) (slice_get (command_interfaces c) k) on in
      let y = some_or (λ (i : JointInterface). i.joint == joint) (slice_get (command_interfaces c) k') on' in
      one_joint k k' a.0 b.0 x.0 y.0 a.1.0 b.1.0 a.1.1 b.1.1
      (eqb-true x.0.joint joint x.1.1 ∙ sym (eqb-true y.0.joint joint y.1.1)) (slice_get c.joints x.0.joint) refl
      (called_so k a.0 x.0 a.1.0 x.1.0) (called_so k' b.0 y.0 b.1.0 y.1.0)

  -- so none is beside another
  none_beside : (joint k : ℕ) → is_claimed s commands k ≡ true → (k' : ℕ) → is_claimed s commands k' ≡ true
      → stands_on (command_interfaces c) joint k ≡ true
      → (stands_on (command_interfaces c) joint k' && not (k == k')) ≡ false
  none_beside joint k claimed k' claimed' on = by_test (stands_on (command_interfaces c) joint k') refl
    where
      by_test : (b : Bool) → stands_on (command_interfaces c) joint k' ≡ b → (b && not (k == k')) ≡ false
      by_test false off = refl
      by_test true on' = ap not (eq-eqb k k' (one_claim joint k k' claimed claimed' on on'))

  not_contested : (joint : ℕ) → is_contested (command_interfaces c) (claims_in s commands) joint ≡ false
  not_contested joint =
      any_none _ (claims_in s commands)
      (all_so (λ k. is_claimed s commands k ≡ true) _ (λ k claimed. one k claimed) (claims_in s commands) claimed_all)
    where
      claimed_all : AllByRecursion (λ k. is_claimed s commands k ≡ true) (claims_in s commands)
      claimed_all = all_pass (is_claimed s commands) (range_with_len 0 (length commands))

      one : (k : ℕ) → is_claimed s commands k ≡ true
          → (stands_on (command_interfaces c) joint k
          && list_any (λ other. stands_on (command_interfaces c) joint other && not (k == other))
          (claims_in s commands)) ≡ false
      one k claimed = by_test (stands_on (command_interfaces c) joint k) refl
        where
          by_test : (b : Bool) → stands_on (command_interfaces c) joint k ≡ b
              → (b && list_any (λ other. stands_on (command_interfaces c) joint other && not (k == other))
              (claims_in s commands)) ≡ false
          by_test false off = refl
          by_test true on =
              any_none _ (claims_in s commands)
              (all_so (λ k'. is_claimed s commands k' ≡ true) _
              (λ k' claimed'. none_beside joint k claimed k' claimed' on) (claims_in s commands) claimed_all)

  -- What is claimed of a component can be together.
  pub claims_agree : mode_fault c (claims_in s commands) ≡ None
  claims_agree =
      find_none (is_contested (command_interfaces c) (claims_in s commands)) (range_with_len 0 (length c.joints))
      (all_of _ not_contested (range_with_len 0 (length c.joints)))
