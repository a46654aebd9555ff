-- The places of a description that was written down by hand, and what they tell: computed from the definitions.
use Rattle.std.proofs.Common.{◌≡◌, ℕ, refl, List, [], ◌∷◌, map, pos, Some, None}
use Rattle.std.specs.Prelude.{codes}
use Rattle.fixed_num.specs.declared.value.Value.{Value}
use Rattle.fixed_num.specs.declared.value.Value.TheVariants.{Unset, Num}
use Rattle.iface_names.specs.declared.interface.IfaceName.TheVariants.{Joint, Reference}
use Rattle.iface_names.specs.declared.kind.Kind.{Kind}
use Rattle.iface_names.specs.declared.kind.Kind.TheVariants.{Position, Velocity, Effort}
use Rattle.cm_document.specs.Described.{a_controller, a_description, a_joint, a_component}
use Rattle.cm_document.specs.Places.{interfaces_of}
use Rattle.cm_document.specs.declared.description.CompKind.TheVariants.{System}
use Rattle.cm_document.specs.declared.description.Description.{Description}
use Rattle.cm_document.specs.declared.description.JointDesc.{JointDesc}
use Rattle.cm_document.specs.declared.description.Params.TheVariants.{Forward, Passthrough, Pid}
use Rattle.cm_document.specs.declared.life.Life.TheVariants.{Unconfigured, Active}
use Rattle.cm_model.specs.Claims.{given}
use Rattle.cm_model.specs.Values.{InterfaceValue, unset}
use Rattle.cm_places.specs.Placed.{placed_of, value_at, with_outputs}

-- a joint with these commands and states
abbrev joint_with : List ℕ → List Kind → List Kind → JointDesc
joint_with name commands states = a_joint name (pos 1000000) (pos 1000000) (pos 0) (pos 0) (pos 0) commands states

-- The board: at 0 and 1 velocity and position of j1, at 2 the position of j2, which is a state as these are; at 3 the
-- effort that drives j1, at 4 the position that drives j2; at 5 the reference of the passthrough, at 6 that of the pid.
abbrev arm : Description
arm = a_description 1 100 2
    (a_component (codes "arm") System Active Unconfigured [] [] (
    joint_with (codes "j1") (Effort ∷ []) (Velocity ∷ Position ∷ [])
    ∷ joint_with (codes "j2") (Position ∷ []) (Position ∷ []) ∷ []) ∷ [])
    (a_controller (codes "through") 0 (Joint (codes "j1") Effort ∷ []) [] (Passthrough 1)
    ∷ a_controller (codes "loop") 0 (Joint (codes "j2") Position ∷ []) (Joint (codes "j2") Position ∷ [])
    (Pid (pos 0) (pos 0) (pos 0) (pos 0) (pos 0))
    ∷ a_controller (codes "lead") 0
    (Reference (codes "loop") (codes "j2") Position ∷ Reference (codes "through") (codes "j1") Effort ∷ [])
    (Joint (codes "j1") Position ∷ Joint (codes "j1") Velocity ∷ []) (Forward 2)
    ∷ a_controller (codes "other") 0 (Joint (codes "j2") Position ∷ []) [] (Forward 1) ∷ [])

-- A state and a command of one name have places of their own; what is claimed twice has both its claimers; each list
-- keeps its order.
places_of_the_arm : placed_of arm ≡ record {
  reads = [] ∷ (2 ∷ []) ∷ (1 ∷ 0 ∷ []) ∷ [] ∷ [];
  references = (5 ∷ []) ∷ (6 ∷ []) ∷ [] ∷ [] ∷ [];
  claims = (3 ∷ []) ∷ (4 ∷ []) ∷ (6 ∷ 5 ∷ []) ∷ (4 ∷ []) ∷ [];
  claimers = [] ∷ [] ∷ [] ∷ (0 ∷ []) ∷ (1 ∷ 3 ∷ []) ∷ (2 ∷ []) ∷ (2 ∷ []) ∷ [];
  exporters = None ∷ None ∷ None ∷ None ∷ None ∷ Some 0 ∷ Some 1 ∷ [];
}
places_of_the_arm = refl

-- the values of these
abbrev held : List InterfaceValue → List Value
held values = map (λ v. v.value) values

-- The outputs 3 and 7 of `lead` go to 6 and to 5, and no other interface changes; so they do by name.
outputs_of_lead : held (with_outputs (map unset (interfaces_of arm)) (6 ∷ 5 ∷ []) (Num (pos 3) ∷ Num (pos 7) ∷ []))
    ≡ Unset ∷ Unset ∷ Unset ∷ Unset ∷ Unset ∷ Num (pos 7) ∷ Num (pos 3) ∷ []
outputs_of_lead = refl

outputs_by_name : held
    (given (Reference (codes "loop") (codes "j2") Position ∷ Reference (codes "through") (codes "j1") Effort ∷ [])
    (Num (pos 3) ∷ Num (pos 7) ∷ []) (map unset (interfaces_of arm)))
    ≡ Unset ∷ Unset ∷ Unset ∷ Unset ∷ Unset ∷ Num (pos 7) ∷ Num (pos 3) ∷ []
outputs_by_name = refl

-- what stands at a place, and past the last Unset
value_of_six : value_at (with_outputs (map unset (interfaces_of arm)) (6 ∷ []) (Num (pos 3) ∷ [])) 6 ≡ Num (pos 3)
value_of_six = refl

value_past : value_at (map unset (interfaces_of arm)) 7 ≡ Unset
value_past = refl
