-- The interfaces of a description that was written down by hand, each at its place: computed from the definitions.
use Rattle.std.proofs.Common.{◌≡◌, ℕ, refl, List, [], ◌∷◌, pos}
use Rattle.std.specs.Prelude.{codes}
use Rattle.iface_names.specs.declared.interface.IfaceName.TheVariants.{Joint, Reference}
use Rattle.iface_names.specs.declared.kind.Kind.{Kind}
use Rattle.iface_names.specs.declared.kind.Kind.TheVariants.{Position, Velocity, Effort}
use Rattle.cm_document.specs.Described.{a_controller, a_description, a_joint, a_component}
use Rattle.cm_document.specs.Places.{a_state, a_command, of_joint, of_controller, interfaces_of}
use Rattle.cm_document.specs.declared.description.CompKind.TheVariants.{System}
use Rattle.cm_document.specs.declared.description.JointDesc.{JointDesc}
use Rattle.cm_document.specs.declared.description.Params.TheVariants.{Forward, Passthrough}
use Rattle.cm_document.specs.declared.life.Life.TheVariants.{Unconfigured, Active}

-- a joint with these commands and states
abbrev joint_with : List ℕ → List Kind → List Kind → JointDesc
joint_with name commands states = a_joint name (pos 1000000) (pos 1000000) (pos 0) (pos 0) (pos 0) commands states

-- The states of both joints come first, in the order of their lists; then the commands of both; then the reference of
-- the passthrough.
in_order : interfaces_of (a_description 1 100 2
    (a_component (codes "arm") System Active Unconfigured [] [] (
    joint_with (codes "j1") (Effort ∷ []) (Velocity ∷ Position ∷ [])
    ∷ joint_with (codes "j2") (Position ∷ []) (Position ∷ []) ∷ []) ∷ [])
    (a_controller (codes "p") 0 (Joint (codes "j1") Effort ∷ []) [] (Passthrough 1)
    ∷ a_controller (codes "f") 0 (Reference (codes "p") (codes "j1") Effort ∷ []) [] (Forward 1) ∷ []))
    ≡ record { called = a_state (Joint (codes "j1") Velocity); whose = of_joint 0 0 }
    ∷ record { called = a_state (Joint (codes "j1") Position); whose = of_joint 0 0 }
    ∷ record { called = a_state (Joint (codes "j2") Position); whose = of_joint 0 1 }
    ∷ record { called = a_command (Joint (codes "j1") Effort); whose = of_joint 0 0 }
    ∷ record { called = a_command (Joint (codes "j2") Position); whose = of_joint 0 1 }
    ∷ record { called = a_command (Reference (codes "p") (codes "j1") Effort); whose = of_controller 0 } ∷ []
in_order = refl
