-- The interfaces of components on one of their two sides: commands or states.
use Rattle.std.specs.Prelude.{Bool, List, map, flat_map}
use Rattle.iface_names.specs.declared.interface.IfaceName.{IfaceName}
use Rattle.iface_names.specs.declared.interface.IfaceName.TheVariants.{Joint}
use Rattle.cm_document.specs.declared.description.CompDesc.{CompDesc}
use Rattle.cm_document.specs.declared.description.JointDesc.{JointDesc}
use Rattle.cm_document.specs.Places.{kinds_of}

-- the command interfaces of a joint, or else its state interfaces
abbrev pub names_on : Bool → JointDesc → List IfaceName
names_on is_command j = map (Joint j.name) (kinds_of is_command j)

-- those of all joints of components
abbrev pub names_in : Bool → List CompDesc → List IfaceName
names_in is_command components = flat_map (λ c. flat_map (names_on is_command) c.joints) components
