-- Each interface of a valid description stands at one place.
use Rattle.std.proofs.Common.{◌≡◌, ℕ, ◌+◌, Bool, true, false, List, [], ◌∷◌, ◌++◌, length, map, refl, sym, ap₂, ◌∙◌}
use Rattle.std.proofs.lemmas.List.{map-append}
use Rattle.std.proofs.lemmas.Simd.{map-map}
use Rattle.std.specs.Prelude.{◌&&◌, not, flat_map}
use Rattle.std.specs.List.{AllByRecursion, IsDistinct}
use Rattle.std.proofs.lemmas.Bool.{and_left, and_right}
use Rattle.iface_names.specs.Interfaces.{same_kind, same_interface}
use Rattle.iface_names.specs.Names.{same_name}
use Rattle.iface_names.specs.Sameness.{same_interface-IsEquivalence}
use Rattle.iface_names.specs.declared.interface.IfaceName.{IfaceName}
use Rattle.iface_names.specs.declared.interface.IfaceName.TheVariants.{Joint, Reference}
use Rattle.iface_names.specs.declared.kind.Kind.{Kind}
use Rattle.cm_document.specs.Described.{states_of}
use Rattle.cm_document.specs.Links.{joints_of, commands_of, commands_of_joint}
use Rattle.cm_document.specs.Links.{reference_for, exported_for, refs_of, references_of}
use Rattle.cm_document.specs.Places.{Called, a_state, a_command, of_controller, at_joint, at_joints}
use Rattle.cm_document.specs.Places.{at_components, at_controllers, called_in, EachStandsOnce}
use Rattle.cm_document.specs.Valid.{IsValid}
use Rattle.cm_document.specs.declared.description.CompDesc.{CompDesc}
use Rattle.cm_document.specs.declared.description.CtlDesc.{CtlDesc}
use Rattle.cm_document.specs.declared.description.Description.{Description}
use Rattle.cm_document.specs.declared.description.JointDesc.{JointDesc}
use Rattle.sequence.proofs.ListLemmas.{all_append}
use Rattle.cm_document.proofs.DistinctLemmas.{AreApart, all_of, all_so, all_map, all_flat_map}
use Rattle.cm_document.proofs.DistinctLemmas.{IsDistinct-append, IsDistinct-map, flat_map-flat_map, one_place}
use Rattle.cm_document.proofs.KindLemmas.{KindsOnce, IsDescribed-DescribesOnce}
use Rattle.cm_document.proofs.ValidParts.{parts_of_valid}

-- ---- Interfaces of joints

module _ (kinds : JointDesc → List Kind) where
  -- the names of the interfaces of a joint, one of each of these kinds
  abbrev names_of_joint : JointDesc → List IfaceName
  names_of_joint j = map (Joint j.name) (kinds j)

  -- an interface is none of a joint of another name
  other_joints : (name : List ℕ) (kind : Kind) (js : List JointDesc)
      → AllByRecursion (λ n. same_name name n ≡ false) (map (λ j. j.name) js)
      → AllByRecursion (λ y. same_interface (Joint name kind) y ≡ false) (flat_map names_of_joint js)
  other_joints name kind [] differ = tt
  other_joints name kind (j ∷ js) differ =
      all_append _ (names_of_joint j) (flat_map names_of_joint js)
      (all_map _ (Joint j.name) (kinds j) (all_of _ (λ k. and_left _ _ differ.0) (kinds j)))
      (other_joints name kind js differ.1)

  -- joints whose names differ, each of kinds that differ, have interfaces that differ
  of_joints : (js : List JointDesc) → IsDistinct same_name (map (λ j. j.name) js)
      → AllByRecursion (λ j. IsDistinct same_kind (kinds j)) js
      → IsDistinct same_interface (flat_map names_of_joint js)
  unfolding IsDistinct
  of_joints [] differ once = tt
  of_joints (j ∷ js) differ once = IsDistinct-append same_interface (names_of_joint j) (flat_map names_of_joint js)
      (IsDistinct-map same_kind same_interface (Joint j.name) (λ k l apart. and_right (same_name j.name j.name) _ apart)
      (kinds j) once.0)
      (of_joints js differ.1 once.1)
      (all_map _ (Joint j.name) (kinds j) (all_of _ (λ kind. other_joints j.name kind js differ.0) (kinds j)))

  -- so for all joints of components
  of_components : (cs : List CompDesc) → IsDistinct same_name (map (λ j. j.name) (joints_of cs))
      → AllByRecursion (λ j. IsDistinct same_kind (kinds j)) (joints_of cs)
      → IsDistinct same_interface (flat_map (λ c. flat_map names_of_joint c.joints) cs)
  of_components cs differ once =
      rw (sym (flat_map-flat_map names_of_joint (λ (c : CompDesc). c.joints) cs)) (of_joints (joints_of cs) differ once)

-- ---- All interfaces

-- a joint's interface is none of the references for an interface
no_reference : (joint controller : List ℕ) (kind : Kind) (i : IfaceName)
    → same_interface (Joint joint kind) (reference_for controller i) ≡ false
no_reference joint controller kind (Joint _ _) = refl
no_reference joint controller kind (Reference _ _ _) = refl

-- nor is it one of the references of controllers
no_references : (joint : List ℕ) (kind : Kind) (cs : List CtlDesc)
    → AllByRecursion (λ y. same_interface (Joint joint kind) y ≡ false) (references_of cs)
no_references joint kind cs =
    all_flat_map _ refs_of cs
    (all_of _ (λ c. all_map _ (reference_for c.name) (exported_for c.params c)
    (all_of _ (no_reference joint c.name kind) _)) cs)

-- so commands of joints are no references
commands_apart : (components : List CompDesc) (controllers : List CtlDesc)
    → AreApart same_interface (commands_of components) (references_of controllers)
commands_apart components controllers =
    all_flat_map _ _ components (all_of _ (λ c. all_flat_map _ commands_of_joint c.joints (all_of _ (λ j.
    all_map _ (Joint j.name) j.commands (all_of _ (λ kind. no_references j.name kind controllers) j.commands))
    c.joints)) components)

-- both are states, or both commands
abbrev same_side : Bool → Bool → Bool
same_side false b = not b
same_side true b = b

-- the same of a state or of a command
abbrev same_listed : Called → Called → Bool
same_listed i j = same_side i.is_command j.is_command && same_interface i.name j.name

-- states are no commands
sides_apart : (states commands : List IfaceName) → AreApart same_listed (map a_state states) (map a_command commands)
sides_apart states commands =
    all_map _ a_state states (all_of _ (λ x. all_map _ a_command commands (all_of _ (λ y. refl) commands)) states)

-- an interface is the same as itself
same_itself : (is_command : Bool) (name : IfaceName)
    → (same_side is_command is_command && same_interface name name) ≡ true
same_itself false name = same_interface-IsEquivalence.refl name
same_itself true name = same_interface-IsEquivalence.refl name

-- ---- What they are called

module _ (call : IfaceName → Called) (kinds : JointDesc → List Kind) where
  -- at a joint stand its interfaces, by their names
  joint_called : (component place : ℕ) (j : JointDesc)
      → map (λ i. i.called) (at_joint call kinds component place j) ≡ map call (names_of_joint kinds j)
  joint_called component place j = map-map (λ i. i.called) _ (kinds j) ∙ sym (map-map call (Joint j.name) (kinds j))

  -- so at the joints of a component
  joints_called : (component place : ℕ) (js : List JointDesc)
      → map (λ i. i.called) (at_joints call kinds component place js) ≡ map call (flat_map (names_of_joint kinds) js)
  joints_called component place [] = refl
  joints_called component place (j ∷ js) =
      map-append (λ i. i.called) (at_joint call kinds component place j) (at_joints call kinds component (place + 1) js)
      ∙ ap₂ (λ xs ys. xs ++ ys) (joint_called component place j) (joints_called component (place + 1) js)
      ∙ sym (map-append call (names_of_joint kinds j) (flat_map (names_of_joint kinds) js))

  -- and at those of all
  components_called : (component place : ℕ) (cs : List CompDesc)
      → map (λ i. i.called) (at_components call kinds component place cs)
      ≡ map call (flat_map (λ c. flat_map (names_of_joint kinds) c.joints) cs)
  components_called component place [] = refl
  components_called component place (c ∷ cs) =
      map-append (λ i. i.called) (at_joints call kinds component place c.joints)
      (at_components call kinds (component + 1) (place + length c.joints) cs)
      ∙ ap₂ (λ xs ys. xs ++ ys) (joints_called component place c.joints)
      (components_called (component + 1) (place + length c.joints) cs)
      ∙ sym (map-append call (flat_map (names_of_joint kinds) c.joints)
      (flat_map (λ c. flat_map (names_of_joint kinds) c.joints) cs))

-- controllers have their references
controllers_called : (place : ℕ) (cs : List CtlDesc)
    → map (λ i. i.called) (at_controllers place cs) ≡ map a_command (references_of cs)
controllers_called place [] = refl
controllers_called place (c ∷ cs) =
    map-append (λ i. i.called)
    (map (λ name. record { called = a_command name; whose = of_controller place }) (refs_of c))
    (at_controllers (place + 1) cs)
    ∙ ap₂ (λ xs ys. xs ++ ys) (map-map (λ i. i.called) _ (refs_of c)) (controllers_called (place + 1) cs)
    ∙ sym (map-append a_command (refs_of c) (references_of cs))

-- The states come first by their names, then the commands, then the references.
pub called_by_names : (d : Description)
    → called_in d
    ≡ map a_state (states_of d.components) ++ map a_command (commands_of d.components ++ references_of d.controllers)
called_by_names d =
    map-append (λ i. i.called) (at_components a_state (λ j. j.states) 0 0 d.components)
    (at_components a_command (λ j. j.commands) 0 0 d.components ++ at_controllers 0 d.controllers)
    ∙ ap₂ (λ xs ys. xs ++ ys) (components_called a_state (λ j. j.states) 0 0 d.components)
    (map-append (λ i. i.called) (at_components a_command (λ j. j.commands) 0 0 d.components)
    (at_controllers 0 d.controllers)
    ∙ ap₂ (λ xs ys. xs ++ ys) (components_called a_command (λ j. j.commands) 0 0 d.components)
    (controllers_called 0 d.controllers)
    ∙ sym (map-append a_command (commands_of d.components) (references_of d.controllers)))

-- what the interfaces of a valid description are called differs
interfaces-IsDistinct : (d : Description) → IsValid d → IsDistinct same_listed (called_in d)
interfaces-IsDistinct d ok =
    let names = (parts_of_valid d ok).names in
    let once = all_flat_map KindsOnce (λ (c : CompDesc). c.joints) d.components
    (IsDescribed-DescribesOnce d ok.described) in
    let states = of_components (λ j. j.states) d.components names.joints (all_so _ _ (λ j h. h.states) _ once) in
    let commands = of_components (λ j. j.commands) d.components names.joints (all_so _ _ (λ j h. h.commands) _ once) in
    let claimable =
    IsDistinct-append same_interface (commands_of d.components) (references_of d.controllers) commands names.references
    (commands_apart d.components d.controllers) in
    rw (called_by_names d)
    (IsDistinct-append same_listed (map a_state (states_of d.components))
    (map a_command (commands_of d.components ++ references_of d.controllers))
    (IsDistinct-map same_interface same_listed a_state (λ x y differ. differ) _ states)
    (IsDistinct-map same_interface same_listed a_command (λ x y differ. differ) _ claimable)
    (sides_apart (states_of d.components) (commands_of d.components ++ references_of d.controllers)))

-- Each interface of a valid description stands at one place.
pub IsValid-EachStandsOnce : (d : Description) → IsValid d → EachStandsOnce d
IsValid-EachStandsOnce d ok p q c =
    one_place same_listed (λ i. same_itself i.is_command i.name) (called_in d) (interfaces-IsDistinct d ok) c p q
