-- All interfaces of a description, each idle at first.
use Rattle.std.proofs.Common.{◌≡◌, ℕ, zero, suc, drop, ◌+◌, ◌<◌, ◌^◌, arith, Bool, true, false}
use Rattle.std.proofs.Common.{List, [], ◌∷◌, ◌++◌, length, map, refl, sym, ap, ap₂, ◌∙◌}
use Rattle.std.specs.Prelude.{flat_map}
use Rattle.std.proofs.lemmas.List.{append_assoc, map-append, length-append, length-map}
use Rattle.iface_names.specs.declared.interface.IfaceName.{IfaceName}
use Rattle.iface_names.specs.declared.interface.IfaceName.TheVariants.{Joint}
use Rattle.iface_names.specs.declared.kind.Kind.{Kind}
use Rattle.cm_document.specs.Described.{states_of}
use Rattle.cm_document.specs.Links.{commands_of, exported_for, refs_of, references_of, reference_for}
use Rattle.cm_document.specs.Places.{Called, Interface, a_state, a_command, of_joint, of_controller, at_joint}
use Rattle.cm_document.specs.Places.{at_joints, at_components, at_controllers, interfaces_of, kinds_of}
use Rattle.cm_document.specs.Valid.{IsValid}
use Rattle.cm_document.specs.declared.description.CompDesc.{CompDesc}
use Rattle.cm_document.specs.declared.description.CtlDesc.{CtlDesc}
use Rattle.cm_document.specs.declared.description.Description.{Description}
use Rattle.cm_document.specs.declared.description.JointDesc.{JointDesc}
use Rattle.cm_document.proofs.PlaceLemmas.{called_by_names}
use Rattle.loan_board.specs.Loans.{idle, idle_of}
use Rattle.loan_board.specs.declared.board.Loan.{Loan}
use Rattle.cm_document.proofs.ValidParts.{parts_of_valid}

-- an idle loan for each of these
abbrev all_of : {A : Type 0} → Bool → List A → List Loan
all_of is_command xs = map (λ _. idle is_command) xs

-- one of them, and those after it
pub all_next : {A : Type 0} (is_command : Bool) (xs : List A) (i : ℕ) → i < length xs
    → all_of is_command (drop i xs) ≡ idle is_command ∷ all_of is_command (drop (i + 1) xs)
all_next is_command [] i less = absurd (omega arith)
all_next is_command (x ∷ xs) zero less = refl
all_next is_command (x ∷ xs) (suc i) less =
    let next : suc i + 1 ≡ suc (i + 1) = omega arith in
    rw next (all_next is_command xs i (omega (arith, less)))

-- ---- Of joints

module _ (call : IfaceName → Called) (is_command : Bool)
    (sided : (name : IfaceName) → (call name).is_command ≡ is_command) where
  -- of one of each of these kinds
  of_kinds : (component place : ℕ) (name : List ℕ) (kinds : List Kind)
      → map idle_of (map (λ kind. record { called = call (Joint name kind); whose = of_joint component place }) kinds)
      ≡ all_of is_command kinds
  of_kinds component place name [] = refl
  of_kinds component place name (kind ∷ kinds) =
      ap₂ (λ l ls. l ∷ ls) (ap idle (sided (Joint name kind))) (of_kinds component place name kinds)

  of_joints : (component place : ℕ) (js : List JointDesc)
      → map idle_of (at_joints call (kinds_of is_command) component place js)
      ≡ all_of is_command (flat_map (kinds_of is_command) js)
  of_joints component place [] = refl
  of_joints component place (j ∷ js) =
      map-append idle_of (at_joint call (kinds_of is_command) component place j)
      (at_joints call (kinds_of is_command) component (place + 1) js)
      ∙ ap₂ (λ xs ys. xs ++ ys) (of_kinds component place j.name (kinds_of is_command j))
      (of_joints component (place + 1) js)
      ∙ sym (map-append (λ _. idle is_command) (kinds_of is_command j) (flat_map (kinds_of is_command) js))

  of_components : (component place : ℕ) (cs : List CompDesc)
      → map idle_of (at_components call (kinds_of is_command) component place cs)
      ≡ all_of is_command (flat_map (λ c. flat_map (kinds_of is_command) c.joints) cs)
  of_components component place [] = refl
  of_components component place (c ∷ cs) =
      map-append idle_of (at_joints call (kinds_of is_command) component place c.joints)
      (at_components call (kinds_of is_command) (component + 1) (place + length c.joints) cs)
      ∙ ap₂ (λ xs ys. xs ++ ys) (of_joints component place c.joints)
      (of_components (component + 1) (place + length c.joints) cs)
      ∙ sym (map-append (λ _. idle is_command) (flat_map (kinds_of is_command) c.joints)
      (flat_map (λ c. flat_map (kinds_of is_command) c.joints) cs))

-- ---- Of controllers

-- of a reference for each of these interfaces
of_references : (place : ℕ) (controller : List ℕ) (interfaces : List IfaceName)
    → map idle_of
    (map (λ name. record { called = a_command name; whose = of_controller place })
    (map (reference_for controller) interfaces)) ≡ all_of true interfaces
of_references place controller [] = refl
of_references place controller (i ∷ interfaces) = ap (λ ls. idle true ∷ ls) (of_references place controller interfaces)

of_controllers : (place : ℕ) (cs : List CtlDesc)
    → map idle_of (at_controllers place cs) ≡ all_of true (flat_map (λ c. exported_for c.params c) cs)
of_controllers place [] = refl
of_controllers place (c ∷ cs) =
    map-append idle_of (map (λ name. record { called = a_command name; whose = of_controller place }) (refs_of c))
    (at_controllers (place + 1) cs)
    ∙ ap₂ (λ xs ys. xs ++ ys) (of_references place c.name (exported_for c.params c)) (of_controllers (place + 1) cs)
    ∙ sym (map-append (λ _. idle true) (exported_for c.params c) (flat_map (λ c. exported_for c.params c) cs))

-- ---- All

-- the states of all joints, then their commands, then the references
pub all_idle : (d : Description) →
    (all_of false (flat_map (λ c. flat_map (kinds_of false) c.joints) d.components)
    ++ all_of true (flat_map (λ c. flat_map (kinds_of true) c.joints) d.components))
    ++ all_of true (flat_map (λ c. exported_for c.params c) d.controllers) ≡ map idle_of (interfaces_of d)
all_idle d =
    append_assoc (all_of false (flat_map (λ c. flat_map (kinds_of false) c.joints) d.components))
    (all_of true (flat_map (λ c. flat_map (kinds_of true) c.joints) d.components)) _
    ∙ sym (map-append idle_of (at_components a_state (λ j. j.states) 0 0 d.components)
    (at_components a_command (λ j. j.commands) 0 0 d.components ++ at_controllers 0 d.controllers)
    ∙ ap₂ (λ xs ys. xs ++ ys) (of_components a_state false (λ name. refl) 0 0 d.components)
    (map-append idle_of (at_components a_command (λ j. j.commands) 0 0 d.components) (at_controllers 0 d.controllers)
    ∙ ap₂ (λ xs ys. xs ++ ys) (of_components a_command true (λ name. refl) 0 0 d.components)
    (of_controllers 0 d.controllers)))

-- ---- How many

-- there are as many interfaces as states, commands and references
interfaces_count : (d : Description)
    → length (interfaces_of d)
    ≡ length (states_of d.components) + (length (commands_of d.components) + length (references_of d.controllers))
interfaces_count d =
    sym (length-map (interfaces_of d) (λ (i : Interface). i.called))
    ∙ ap length (called_by_names d)
    ∙ length-append (map a_state (states_of d.components))
    (map a_command (commands_of d.components ++ references_of d.controllers))
    ∙ ap₂ (λ m n. m + n) (length-map (states_of d.components) a_state)
    (length-map (commands_of d.components ++ references_of d.controllers) a_command
    ∙ length-append (commands_of d.components) (references_of d.controllers))

-- Each interface of a valid description has a number of 32 bits.
pub interfaces_few : (d : Description) → IsValid d → length (interfaces_of d) < 2 ^ 32
interfaces_few d ok =
    let few = (parts_of_valid d ok).few in
    omega (arith, interfaces_count d, few.states, few.commands, few.references)
