-- How the interfaces of a description are numbered: each has a place, and boards, plans and lists name it by that.
use Rattle.std.specs.Prelude.{◌≡◌, ℕ, ◌+◌, Bool, true, false, List, [], ◌∷◌, ◌++◌, length, map, slice_get, Some}
use Rattle.iface_names.specs.declared.interface.IfaceName.{IfaceName}
use Rattle.iface_names.specs.declared.interface.IfaceName.TheVariants.{Joint}
use Rattle.iface_names.specs.declared.kind.Kind.{Kind}
use Rattle.cm_document.specs.Links.{refs_of}
use Rattle.cm_document.specs.declared.description.CompDesc.{CompDesc}
use Rattle.cm_document.specs.declared.description.CtlDesc.{CtlDesc}
use Rattle.cm_document.specs.declared.description.Description.{Description}
use Rattle.cm_document.specs.declared.description.JointDesc.{JointDesc}

-- What an interface is called: a state and a command of one joint and kind have one name, and are two interfaces.
pub record Called : Type 0 where
  pub is_command : Bool
  pub name : IfaceName

-- a state interface of this name
abbrev pub a_state : IfaceName → Called
a_state name = record { is_command = false; name = name }

-- a command interface of this name
abbrev pub a_command : IfaceName → Called
a_command name = record { is_command = true; name = name }

-- Whose an interface is: a component's, at one of its joints, or the controller's that exports it. Components and
-- controllers are named by their places in the description, and a joint by its place among the joints of all
-- components.
pub data Whose : Type 0 where
  of_joint : ℕ → ℕ → Whose
  of_controller : ℕ → Whose

-- an interface as it is listed
pub record Interface : Type 0 where
  pub called : Called
  pub whose : Whose

-- ---- Of joints

-- the kinds of a joint's command interfaces, or else of its state interfaces
abbrev pub kinds_of : Bool → JointDesc → List Kind
kinds_of true j = j.commands
kinds_of false j = j.states

-- the interfaces of the joint at this place, of the component at that one: one of each of these kinds, in their order
abbrev pub at_joint : (IfaceName → Called) → (JointDesc → List Kind) → ℕ → ℕ → JointDesc → List Interface
at_joint call kinds component place j = map (λ kind. record {
  called = call (Joint j.name kind);
  whose = of_joint component place;
}) (kinds j)

-- those of the joints of a component, the first of which stands at this place
abbrev pub at_joints : (IfaceName → Called) → (JointDesc → List Kind) → ℕ → ℕ → List JointDesc → List Interface
at_joints call kinds component place [] = []
at_joints call kinds component place (j ∷ js) =
    at_joint call kinds component place j ++ at_joints call kinds component (place + 1) js

-- those of components, the first of which stands at this place, and its first joint at that one
abbrev pub at_components : (IfaceName → Called) → (JointDesc → List Kind) → ℕ → ℕ → List CompDesc → List Interface
at_components call kinds component place [] = []
at_components call kinds component place (c ∷ cs) =
    at_joints call kinds component place c.joints
    ++ at_components call kinds (component + 1) (place + length c.joints) cs

-- ---- Of controllers

-- the references of controllers, the first of which stands at this place
abbrev pub at_controllers : ℕ → List CtlDesc → List Interface
at_controllers place [] = []
at_controllers place (c ∷ cs) = map (λ name. record {
  called = a_command name;
  whose = of_controller place;
}) (refs_of c) ++ at_controllers (place + 1) cs

-- ---- All

-- All interfaces, each at its place: the states of all joints as described, each joint's in the order of its list; then
-- the commands of all joints so; then the references of all controllers.
abbrev pub interfaces_of : Description → List Interface
interfaces_of d =
    at_components a_state (λ j. j.states) 0 0 d.components
    ++ (at_components a_command (λ j. j.commands) 0 0 d.components ++ at_controllers 0 d.controllers)

-- what the interfaces are called, each at its place
abbrev pub called_in : Description → List Called
called_in d = map (λ i. i.called) (interfaces_of d)

-- Each interface stands at one place: two places at which stands what is called the same are one.
abbrev pub EachStandsOnce : Description → Type 0
EachStandsOnce d =
    (p q : ℕ) (c : Called) → slice_get (called_in d) p ≡ Some c → slice_get (called_in d) q ≡ Some c → p ≡ q
