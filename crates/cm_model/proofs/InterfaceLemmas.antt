-- What holds of all listed interfaces: of each joint of components, and of each reference of controllers.
use Rattle.std.proofs.Common.{◌≡◌, ℕ, ◌+◌, true, List, [], ◌∷◌, ◌++◌, length, map, refl}
use Rattle.std.specs.Prelude.{Bool}
use Rattle.std.specs.List.{AllByRecursion}
use Rattle.sequence.proofs.ListLemmas.{all_append}
use Rattle.iface_names.specs.declared.interface.IfaceName.{IfaceName}
use Rattle.iface_names.specs.declared.interface.IfaceName.TheVariants.{Joint}
use Rattle.iface_names.specs.declared.kind.Kind.{Kind}
use Rattle.cm_document.proofs.DistinctLemmas.{all_of, all_map}
use Rattle.cm_document.specs.Links.{refs_of}
use Rattle.cm_document.specs.Places.{Called, a_state, a_command, Whose, of_joint, of_controller, Interface}
use Rattle.cm_document.specs.Places.{at_joint, at_joints, at_components, at_controllers, interfaces_of}
use Rattle.cm_document.specs.declared.description.CompDesc.{CompDesc}
use Rattle.cm_document.specs.declared.description.CtlDesc.{CtlDesc}
use Rattle.cm_document.specs.declared.description.Description.{Description}
use Rattle.cm_document.specs.declared.description.JointDesc.{JointDesc}

-- what holds of all that these become holds of what each becomes
pub all_map_back : {A B : Type 0} (P : B → Type 0) (f : A → B) (xs : List A) → AllByRecursion P (map f xs)
    → AllByRecursion (λ x. P (f x)) xs
all_map_back P f [] all = tt
all_map_back P f (x ∷ xs) all = (all.0, all_map_back P f xs all.1)

module _ (P : Interface → Type 0) (call : IfaceName → Called) (kinds : JointDesc → List Kind) where
  -- what holds of each interface of each joint holds of all those of a component
  pub joints_all : (component place : ℕ) (js : List JointDesc)
      → AllByRecursion
      (λ j. (n : ℕ) (kind : Kind) → P (record { called = call (Joint j.name kind); whose = of_joint component n })) js
      → AllByRecursion P (at_joints call kinds component place js)
  joints_all component place [] each = tt
  joints_all component place (j ∷ js) each =
      all_append P (at_joint call kinds component place j) (at_joints call kinds component (place + 1) js)
      (all_map P _ (kinds j) (all_of _ (λ kind. each.0 place kind) (kinds j)))
      (joints_all component (place + 1) js each.1)

  -- and what holds of any of a joint holds of all of components
  pub components_all : ((component n : ℕ) (joint : List ℕ) (kind : Kind)
      → P (record { called = call (Joint joint kind); whose = of_joint component n }))
      → (component place : ℕ) (cs : List CompDesc) → AllByRecursion P (at_components call kinds component place cs)
  components_all each component place [] = tt
  components_all each component place (c ∷ cs) =
      all_append P (at_joints call kinds component place c.joints)
      (at_components call kinds (component + 1) (place + length c.joints) cs)
      (joints_all component place c.joints (all_of _ (λ j n kind. each component n j.name kind) c.joints))
      (components_all each (component + 1) (place + length c.joints) cs)

-- so of those of controllers
pub controllers_all : (P : Interface → Type 0)
    → ((p : ℕ) (name : IfaceName) → P (record { called = a_command name; whose = of_controller p }))
    → (place : ℕ) (cs : List CtlDesc) → AllByRecursion P (at_controllers place cs)
controllers_all P each place [] = tt
controllers_all P each place (c ∷ cs) =
    all_append P (map (λ name. record { called = a_command name; whose = of_controller place }) (refs_of c))
    (at_controllers (place + 1) cs)
    (all_map P _ (refs_of c) (all_of _ (λ name. each place name) (refs_of c))) (controllers_all P each (place + 1) cs)

-- ---- References

-- what is a controller's is a command
abbrev pub IsCommandOf : Whose → Bool → Type 0
IsCommandOf (of_joint component joint) command = Unit {0}
IsCommandOf (of_controller place) command = command ≡ true

-- each listed reference is one
pub references_command : (d : Description)
    → AllByRecursion (λ x. IsCommandOf x.whose x.called.is_command) (interfaces_of d)
references_command d =
    all_append (λ x. IsCommandOf x.whose x.called.is_command) (at_components a_state (λ j. j.states) 0 0 d.components)
    (at_components a_command (λ j. j.commands) 0 0 d.components ++ at_controllers 0 d.controllers)
    (components_all (λ x. IsCommandOf x.whose x.called.is_command) a_state (λ j. j.states)
    (λ component n joint kind. tt) 0 0 d.components)
    (all_append (λ x. IsCommandOf x.whose x.called.is_command)
    (at_components a_command (λ j. j.commands) 0 0 d.components) (at_controllers 0 d.controllers)
    (components_all (λ x. IsCommandOf x.whose x.called.is_command) a_command (λ j. j.commands)
    (λ component n joint kind. tt) 0 0 d.components)
    (controllers_all (λ x. IsCommandOf x.whose x.called.is_command) (λ p name. refl) 0 d.controllers))
