-- The interfaces of a description as they are listed once, for the places to be looked up.
use Rattle.std.specs.Prelude.{ℕ, ◌+◌, Bool, true, not, ◌&&◌, if◌then◌else◌, List, [], ◌∷◌, ◌++◌, length, map, flat_map}
use Rattle.std.specs.Prelude.{position, Option, Some, None}
use Rattle.iface_names.specs.Interfaces.{same_interface}
use Rattle.iface_names.specs.declared.interface.IfaceName.{IfaceName}
use Rattle.iface_names.specs.declared.interface.IfaceName.TheVariants.{Joint}
use Rattle.iface_names.specs.declared.kind.Kind.{Kind}
use Rattle.cm_document.specs.Links.{reference_for, exported_for}
use Rattle.cm_document.specs.Places.{Interface, kinds_of}
use Rattle.cm_document.specs.declared.description.CompDesc.{CompDesc}
use Rattle.cm_document.specs.declared.description.CtlDesc.{CtlDesc}
use Rattle.cm_document.specs.declared.description.JointDesc.{JointDesc}
use Rattle.cm_model.specs.Scene.{claims_at}
use Rattle.chain_order.specs.Links.{places_below}
use Rattle.cm_places.specs.Placed.{exporter_of}
use Rattle.cm_places.specs.declared.listed.ListedInterface.{ListedInterface}

-- ---- What is listed

-- an interface, by what it is called and by the controller that exports it
abbrev pub listed_of : Interface → ListedInterface
listed_of i = record { is_command = i.called.is_command; name = i.called.name; exporter = exporter_of i.whose }

-- an interface of a joint, which no controller exports
abbrev pub listed_at : Bool → List ℕ → Kind → ListedInterface
listed_at is_command joint kind = record { is_command = is_command; name = Joint joint kind; exporter = None }

-- the command interfaces of a joint, or else its state interfaces
abbrev pub listed_joint : Bool → JointDesc → List ListedInterface
listed_joint is_command j = map (listed_at is_command j.name) (kinds_of is_command j)

-- those of all joints of these components
abbrev pub listed_joints : Bool → List CompDesc → List ListedInterface
listed_joints is_command components = flat_map (λ c. flat_map (listed_joint is_command) c.joints) components

-- the reference of the controller at this place, and of this name, that stands for an interface
abbrev pub referring : ℕ → List ℕ → IfaceName → ListedInterface
referring place controller i = record { is_command = true; name = reference_for controller i; exporter = Some place }

-- the references of a controller at this place
abbrev pub listed_references : ℕ → CtlDesc → List ListedInterface
listed_references place c = map (referring place c.name) (exported_for c.params c)

-- those of these controllers, the first of which stands at this place
abbrev pub listed_controllers : ℕ → List CtlDesc → List ListedInterface
listed_controllers place [] = []
listed_controllers place (c ∷ cs) = listed_references place c ++ listed_controllers (place + 1) cs

-- ---- Where names stand

-- the place of the state interface of this name
abbrev pub state_in : List ListedInterface → IfaceName → Option ℕ
state_in listed name = position (λ each. not each.is_command && same_interface each.name name) listed

-- the place of the command interface or reference of this name
abbrev pub command_in : List ListedInterface → IfaceName → Option ℕ
command_in listed name = position (λ each. each.is_command && same_interface each.name name) listed

-- the controllers that claim a listed interface
abbrev pub claimers_in : List CtlDesc → ListedInterface → List ℕ
claimers_in controllers listed =
    if listed.is_command then places_below (λ p. claims_at controllers p listed.name) (length controllers) else []
