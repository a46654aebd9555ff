-- How controllers are linked: what each claims, reads and exports, and which precedes which.
use Rattle.std.specs.Prelude.{◌≡◌, ℕ, zero, suc, Bool, true, false, ◌||◌, ◌&&◌, List, [], ◌∷◌, length, map, flat_map}
use Rattle.std.specs.Prelude.{take, position, Option}
use Rattle.std.specs.List.{list_any}
use Rattle.iface_names.specs.Interfaces.{same_interface}
use Rattle.iface_names.specs.declared.interface.IfaceName.{IfaceName}
use Rattle.iface_names.specs.declared.interface.IfaceName.TheVariants.{Joint, Reference}
use Rattle.cm_document.specs.Params.{exports_of}
use Rattle.cm_document.specs.declared.description.CompDesc.{CompDesc}
use Rattle.cm_document.specs.declared.description.CtlDesc.{CtlDesc}
use Rattle.cm_document.specs.declared.description.Exports.{Exports}
use Rattle.cm_document.specs.declared.description.Exports.TheVariants.{Nothing, FirstRead, EachClaim}
use Rattle.cm_document.specs.declared.description.JointDesc.{JointDesc}
use Rattle.cm_document.specs.declared.description.Params.{Params}

-- ---- Interfaces of components

-- all joints, as described
abbrev pub joints_of : List CompDesc → List JointDesc
joints_of components = flat_map (λ c. c.joints) components

-- the command interfaces of a joint, in the order of its list
abbrev pub commands_of_joint : JointDesc → List IfaceName
commands_of_joint j = map (Joint j.name) j.commands

-- every command interface that these components have, in order
abbrev pub commands_of : List CompDesc → List IfaceName
commands_of components = flat_map (λ c. flat_map commands_of_joint c.joints) components

-- ---- References

-- the reference of a controller that stands for this interface: the controller's name, then the interface's joint and
-- kind
abbrev pub reference_for : List ℕ → IfaceName → IfaceName
reference_for controller (Joint joint kind) = Reference controller joint kind
reference_for controller (Reference other joint kind) = Reference controller joint kind

-- the interfaces for which a controller exports references, if this is what it exports
abbrev pub exported_as : Exports → CtlDesc → List IfaceName
exported_as Nothing c = []
exported_as FirstRead c = take 1 c.reads
exported_as EachClaim c = c.claims

-- it exports references at all
abbrev pub exports_any : Exports → Bool
exports_any Nothing = false
exports_any _ = true

-- the interfaces for which a controller with these parameters exports references
abbrev pub exported_for : Params → CtlDesc → List IfaceName
exported_for params c = exported_as (exports_of params) c

-- the references that a controller exports, in order
abbrev pub refs_of : CtlDesc → List IfaceName
refs_of c = map (reference_for c.name) (exported_for c.params c)

-- every reference, controller by controller
abbrev pub references_of : List CtlDesc → List IfaceName
references_of controllers = flat_map refs_of controllers

-- the interface is among these
abbrev pub is_among : IfaceName → List IfaceName → Bool
is_among i interfaces = list_any (same_interface i) interfaces

-- the place of the controller that exports the reference
abbrev pub exporter : List CtlDesc → IfaceName → Option ℕ
exporter controllers i = position (λ c. is_among i (refs_of c)) controllers

-- c precedes d where it claims a reference of d
abbrev pub precedes : CtlDesc → CtlDesc → Bool
precedes c d = list_any (λ i. is_among i (refs_of d)) c.claims

-- c precedes d at a distance of at most n: it precedes it, or a controller that does at a distance of one less
abbrev pub precedes_within : List CtlDesc → ℕ → CtlDesc → CtlDesc → Bool
precedes_within controllers zero c d = false
precedes_within controllers (suc n) c d =
    precedes c d || list_any (λ e. precedes c e && precedes_within controllers n e d) controllers

-- c precedes d at some distance: among so many controllers none is longer than their number
abbrev pub precedes_far : List CtlDesc → CtlDesc → CtlDesc → Bool
precedes_far controllers c d = precedes_within controllers (length controllers) c d

-- c precedes the first of these, each the next, and the last d
abbrev pub IsChain : CtlDesc → List CtlDesc → CtlDesc → Type 0
IsChain c [] d = precedes c d ≡ true
IsChain c (e ∷ es) d = (precedes c e ≡ true) × IsChain e es d

-- the place of the first controller that precedes itself at some distance
abbrev pub first_in_loop : List CtlDesc → Option ℕ
first_in_loop controllers = position (λ c. precedes_far controllers c c) controllers
