-- What is listed and looked up is what the places of a description are.
use Rattle.std.proofs.Common.{◌≡◌, ℕ, ◌+◌, ◌<◌, ◌^◌, Bool, true, false, List, [], ◌∷◌}
use Rattle.std.proofs.Common.{◌++◌, length, map, Option, None, refl, sym, ap, ap₂, ◌∙◌}
use Rattle.std.specs.Prelude.{flat_map, filter_map, not, ◌&&◌}
use Rattle.std.proofs.Math.Path.{fun_ext}
use Rattle.std.proofs.lemmas.List.{append_assoc, map-append, length-map}
use Rattle.std.proofs.lemmas.Simd.{map-map}
use Rattle.iface_names.specs.Interfaces.{same_interface}
use Rattle.iface_names.specs.declared.interface.IfaceName.{IfaceName}
use Rattle.iface_names.specs.declared.interface.IfaceName.TheVariants.{Joint}
use Rattle.iface_names.specs.declared.kind.Kind.{Kind}
use Rattle.cm_document.specs.Links.{refs_of, exported_for, reference_for}
use Rattle.cm_document.specs.Places.{Called, a_state, a_command, of_joint, of_controller, at_joint}
use Rattle.cm_document.specs.Places.{at_joints, at_components, at_controllers, interfaces_of, kinds_of}
use Rattle.cm_document.specs.Valid.{IsValid}
use Rattle.cm_document.specs.declared.description.CompDesc.{CompDesc}
use Rattle.cm_document.specs.declared.description.CtlDesc.{CtlDesc}
use Rattle.cm_document.specs.declared.description.Description.{Description}
use Rattle.cm_document.specs.declared.description.JointDesc.{JointDesc}
use Rattle.loan_board.proofs.MakingLemmas.{interfaces_few}
use Rattle.cm_places.specs.Listing.{listed_of, listed_at, listed_joint, listed_joints, referring}
use Rattle.cm_places.specs.Listing.{listed_controllers, state_in, command_in, claimers_in}
use Rattle.cm_places.specs.Placed.{Placed, state_place, command_place, placed_of}
use Rattle.cm_places.specs.declared.listed.ListedInterface.{ListedInterface}
use Rattle.cm_places.proofs.FirstLemmas.{position-map}

-- ---- Of joints

-- what is called so is listed so, where no controller exports it
abbrev listed_as : Called → ListedInterface
listed_as called = record { is_command = called.is_command; name = called.name; exporter = None }

module _ (call : IfaceName → Called) (is_command : Bool)
    (sided : (name : IfaceName) → call name ≡ record { is_command = is_command; name = name }) where
  of_kinds : (component place : ℕ) (name : List ℕ) (kinds : List Kind)
      → map listed_of (map (λ kind. record { called = call (Joint name kind); whose = of_joint component place }) kinds)
      ≡ map (listed_at is_command name) kinds
  of_kinds component place name [] = refl
  of_kinds component place name (kind ∷ kinds) =
      ap₂ (λ l ls. l ∷ ls) (ap listed_as (sided (Joint name kind))) (of_kinds component place name kinds)

  of_joints : (component place : ℕ) (js : List JointDesc)
      → map listed_of (at_joints call (kinds_of is_command) component place js) ≡ flat_map (listed_joint is_command) js
  of_joints component place [] = refl
  of_joints component place (j ∷ js) =
      map-append listed_of (at_joint call (kinds_of is_command) component place j)
      (at_joints call (kinds_of is_command) component (place + 1) js)
      ∙ ap₂ (λ xs ys. xs ++ ys) (of_kinds component place j.name (kinds_of is_command j))
      (of_joints component (place + 1) js)

  of_components : (component place : ℕ) (cs : List CompDesc)
      → map listed_of (at_components call (kinds_of is_command) component place cs) ≡ listed_joints is_command cs
  of_components component place [] = refl
  of_components component place (c ∷ cs) =
      map-append listed_of (at_joints call (kinds_of is_command) component place c.joints)
      (at_components call (kinds_of is_command) (component + 1) (place + length c.joints) cs)
      ∙ ap₂ (λ xs ys. xs ++ ys) (of_joints component place c.joints)
      (of_components (component + 1) (place + length c.joints) cs)

-- ---- Of controllers

of_references : (place : ℕ) (controller : List ℕ) (interfaces : List IfaceName)
    → map listed_of
    (map (λ name. record { called = a_command name; whose = of_controller place })
    (map (reference_for controller) interfaces)) ≡ map (referring place controller) interfaces
of_references place controller [] = refl
of_references place controller (i ∷ interfaces) =
    ap (λ ls. referring place controller i ∷ ls) (of_references place controller interfaces)

of_controllers : (place : ℕ) (cs : List CtlDesc) → map listed_of (at_controllers place cs) ≡ listed_controllers place cs
of_controllers place [] = refl
of_controllers place (c ∷ cs) =
    map-append listed_of (map (λ name. record { called = a_command name; whose = of_controller place }) (refs_of c))
    (at_controllers (place + 1) cs)
    ∙ ap₂ (λ xs ys. xs ++ ys) (of_references place c.name (exported_for c.params c)) (of_controllers (place + 1) cs)

-- ---- All

-- the states of all joints, then their commands, then the references
pub all_listed : (d : Description)
    → (listed_joints false d.components ++ listed_joints true d.components) ++ listed_controllers 0 d.controllers
    ≡ map listed_of (interfaces_of d)
all_listed d =
    append_assoc (listed_joints false d.components) (listed_joints true d.components)
    (listed_controllers 0 d.controllers)
    ∙ sym (map-append listed_of (at_components a_state (λ j. j.states) 0 0 d.components)
    (at_components a_command (λ j. j.commands) 0 0 d.components ++ at_controllers 0 d.controllers)
    ∙ ap₂ (λ xs ys. xs ++ ys) (of_components a_state false (λ name. refl) 0 0 d.components)
    (map-append listed_of (at_components a_command (λ j. j.commands) 0 0 d.components) (at_controllers 0 d.controllers)
    ∙ ap₂ (λ xs ys. xs ++ ys) (of_components a_command true (λ name. refl) 0 0 d.components)
    (of_controllers 0 d.controllers)))

-- what is listed of a valid description has numbers of 32 bits
pub few_listed : (d : Description) (listed : List ListedInterface) → IsValid d
    → listed ≡ map listed_of (interfaces_of d) → length listed < 2 ^ 32
few_listed d listed ok are = rw (are, length-map (interfaces_of d) listed_of) (interfaces_few d ok)

-- ---- Looked up

-- the places of what controllers read, export and claim, and of each interface its controllers, as they are looked up
abbrev pub looked_up : List ListedInterface → List CtlDesc → Placed
looked_up listed controllers = record {
  reads = map (λ c. filter_map (state_in listed) c.reads) controllers;
  references = map (λ c. filter_map (command_in listed) (refs_of c)) controllers;
  claims = map (λ c. filter_map (command_in listed) c.claims) controllers;
  claimers = map (claimers_in controllers) listed;
  exporters = map (λ each. each.exporter) listed;
}

states_in : (d : Description) → state_in (map listed_of (interfaces_of d)) ≡ state_place d
states_in d =
    fun_ext (λ name. position-map (λ (each : ListedInterface). not each.is_command && same_interface each.name name)
    listed_of (interfaces_of d))

commands_in : (d : Description) → command_in (map listed_of (interfaces_of d)) ≡ command_place d
commands_in d =
    fun_ext (λ name. position-map (λ (each : ListedInterface). each.is_command && same_interface each.name name)
    listed_of (interfaces_of d))

abbrev with_rows : List CtlDesc → (IfaceName → Option ℕ) → (IfaceName → Option ℕ) → List (List ℕ) → List (Option ℕ)
    → Placed
with_rows controllers state command claimers exporters = record {
  reads = map (λ c. filter_map state c.reads) controllers;
  references = map (λ c. filter_map command (refs_of c)) controllers;
  claims = map (λ c. filter_map command c.claims) controllers;
  claimers = claimers;
  exporters = exporters;
}

-- among all that is listed of a description they are the places of it
pub looked_up-placed : (d : Description) → looked_up (map listed_of (interfaces_of d)) d.controllers ≡ placed_of d
looked_up-placed d =
    ap₂ (λ state command. with_rows d.controllers state command
    (map (claimers_in d.controllers) (map listed_of (interfaces_of d)))
    (map (λ (each : ListedInterface). each.exporter) (map listed_of (interfaces_of d)))) (states_in d) (commands_in d)
    ∙ ap₂ (with_rows d.controllers (state_place d) (command_place d))
    (map-map (claimers_in d.controllers) listed_of (interfaces_of d))
    (map-map (λ (each : ListedInterface). each.exporter) listed_of (interfaces_of d))
