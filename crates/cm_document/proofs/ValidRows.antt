-- Descriptions that were written down by hand, and what is wrong with each: computed from the definitions.
use Rattle.std.proofs.Common.{◌≡◌, refl, List, ℕ, [], ◌∷◌, Ok, Err, pos, false}
use Rattle.std.specs.Prelude.{codes}
use Rattle.std.specs.Fmt.{digits}
use Rattle.iface_names.specs.declared.interface.IfaceName.TheVariants as interface
use Rattle.iface_names.specs.declared.kind.Kind.TheVariants.{Position, Effort, Velocity}
use Rattle.cm_document.specs.Described.{a_controller, a_headed, a_description, a_grouped, a_group, a_joint, a_component}
use Rattle.cm_document.specs.Valid.{valid}
use Rattle.cm_document.specs.declared.description.CompDesc.{CompDesc}
use Rattle.cm_document.specs.declared.description.CompKind.{CompKind}
use Rattle.cm_document.specs.declared.description.CompKind.TheVariants.{Sensor, Actuator}
use Rattle.cm_document.specs.declared.description.CtlDesc.{CtlDesc}
use Rattle.cm_document.specs.declared.description.Description.{Description}
use Rattle.cm_document.specs.declared.description.Params.TheVariants.{Forward, Passthrough, Mock}
use Rattle.cm_document.specs.declared.description.Params.TheVariants.{Transmission, Differential, Limiter}
use Rattle.cm_document.specs.declared.faults.CheckFault.TheVariants.{TooMany, NameTwice, BadRange, NoInterface}
use Rattle.cm_document.specs.declared.faults.CheckFault.TheVariants.{NoFallback, NoMember, ChainLoop}
use Rattle.cm_document.specs.declared.faults.What.TheVariants.{Groups}
use Rattle.cm_document.specs.declared.life.Life.TheVariants.{Unconfigured, Active}

-- a passthrough that claims the reference of another
abbrev passes_to : List ℕ → List ℕ → CtlDesc
passes_to name other = a_controller name 0 (interface.Reference other (codes "j1") Position ∷ []) [] (Passthrough 1)

-- controllers alone, without components
abbrev controllers_alone : List CtlDesc → Description
controllers_alone controllers = a_description 1 100 2 [] controllers

-- a component of one joint with a position command
abbrev one_joint : CompKind → CompDesc
one_joint kind =
    a_component (codes "arm") kind Active Unconfigured [] []
    (a_joint (codes "j1") (pos 1000000) (pos 1000000) (pos 0) (pos 0) (pos 0) (Position ∷ []) (Position ∷ []) ∷ [])

-- two passthroughs that claim each other's reference: the first is told
loop_of_two : valid (controllers_alone (passes_to (codes "p") (codes "q") ∷ passes_to (codes "q") (codes "p") ∷ []))
    ≡ Err (ChainLoop (codes "p"))
unfolding valid digits
loop_of_two = refl

-- one that claims its own reference
loop_of_one : valid (controllers_alone (passes_to (codes "p") (codes "p") ∷ [])) ≡ Err (ChainLoop (codes "p"))
unfolding valid digits
loop_of_one = refl

-- a loop of three behind a controller that leads into it: the first in the loop is told
loop_of_three : valid
    (controllers_alone
    (passes_to (codes "a") (codes "b") ∷ passes_to (codes "b") (codes "c") ∷ passes_to (codes "c") (codes "d")
    ∷ passes_to (codes "d") (codes "b") ∷ [])) ≡ Err (ChainLoop (codes "b"))
unfolding valid digits
loop_of_three = refl

-- a claim that nobody exports
no_interface : valid (controllers_alone (passes_to (codes "p") (codes "q") ∷ []))
    ≡ Err (NoInterface (codes "p") (interface.Reference (codes "q") (codes "j1") Position))
unfolding valid digits
no_interface = refl

-- a sensor with a command
commanded_sensor : valid (a_description 1 100 2 (one_joint Sensor ∷ []) [])
    ≡ Err (BadRange (codes "component[0].joint[0].command"))
unfolding valid digits
commanded_sensor = refl

-- a chain of three on a joint, without a fault
chain_of_three : valid (a_description 1 100 2 (one_joint Actuator ∷ []) (
    a_controller (codes "a") 0 (interface.Reference (codes "b") (codes "j1") Position ∷ []) [] (Passthrough 1)
    ∷ a_controller (codes "b") 0 (interface.Reference (codes "c") (codes "j1") Position ∷ []) [] (Passthrough 1)
    ∷ a_controller (codes "c") 0 (interface.Joint (codes "j1") Position ∷ []) [] (Passthrough 1) ∷ []))
    ≡ Ok (a_description 1 100 2 (one_joint Actuator ∷ []) (
    a_controller (codes "a") 0 (interface.Reference (codes "b") (codes "j1") Position ∷ []) [] (Passthrough 1)
    ∷ a_controller (codes "b") 0 (interface.Reference (codes "c") (codes "j1") Position ∷ []) [] (Passthrough 1)
    ∷ a_controller (codes "c") 0 (interface.Joint (codes "j1") Position ∷ []) [] (Passthrough 1) ∷ []))
unfolding valid digits
chain_of_three = refl

-- a fallback that is not described, and the controller itself
abbrev falls_back_on : List ℕ → List (List ℕ) → CtlDesc
falls_back_on name others = a_headed (record { name = name; rate = 0; fallback = others }) [] [] (Mock 0 false [] [])

unknown_fallback : valid
    (controllers_alone
    (falls_back_on (codes "m") (codes "k" ∷ []) ∷ falls_back_on (codes "k") (codes "m" ∷ codes "l" ∷ []) ∷ []))
    ≡ Err (NoFallback (codes "k") (codes "l"))
unfolding valid digits
unknown_fallback = refl

own_fallback : valid (controllers_alone (falls_back_on (codes "m") (codes "m" ∷ []) ∷ []))
    ≡ Err (NoFallback (codes "m") (codes "m"))
unfolding valid digits
own_fallback = refl

-- a fallback that stands twice, told before a ninth one would be
fallback_twice : valid (controllers_alone (falls_back_on (codes "m") (codes "k" ∷ codes "k" ∷ []) ∷ []))
    ≡ Err (NameTwice (codes "k"))
unfolding valid digits
fallback_twice = refl

nine_fallbacks : valid (controllers_alone (falls_back_on (codes "m")
    (codes "a" ∷ codes "b" ∷ codes "c" ∷ codes "d" ∷ codes "e" ∷ codes "f" ∷ codes "g" ∷ codes "h" ∷ codes "i" ∷ [])
    ∷ []))
    ≡ Err (BadRange (codes "controller[0].fallback"))
unfolding valid digits
nine_fallbacks = refl

-- ---- The second version

-- a group of these members, beside two mocks
abbrev grouped : ℕ → List (List ℕ) → Description
grouped version members =
    a_grouped version 100 2 [] (falls_back_on (codes "m") [] ∷ falls_back_on (codes "k") [] ∷ [])
    (a_group (codes "g") members ∷ [])

both_in_a_group : valid (grouped 2 (codes "k" ∷ codes "m" ∷ [])) ≡ Ok (grouped 2 (codes "k" ∷ codes "m" ∷ []))
unfolding valid digits
both_in_a_group = refl

no_member : valid (grouped 2 (codes "k" ∷ codes "l" ∷ [])) ≡ Err (NoMember (codes "g") (codes "l"))
unfolding valid digits
no_member = refl

member_twice : valid (grouped 2 (codes "k" ∷ codes "k" ∷ [])) ≡ Err (NameTwice (codes "k"))
unfolding valid digits
member_twice = refl

empty_group : valid (grouped 2 []) ≡ Err (BadRange (codes "group[0].members"))
unfolding valid digits
empty_group = refl

-- a third version has the limits of the first, under which no group can stand
third_version : valid (grouped 3 (codes "k" ∷ [])) ≡ Err (TooMany Groups)
unfolding valid digits
third_version = refl

third_without_groups : valid (a_description 3 100 2 [] []) ≡ Err (BadRange (codes "version"))
unfolding valid digits
third_without_groups = refl

-- two controllers of one name
named_twice : valid (controllers_alone (passes_to (codes "p") (codes "p") ∷ passes_to (codes "p") (codes "q") ∷ []))
    ≡ Err (NameTwice (codes "p"))
unfolding valid digits
named_twice = refl

-- a claim that stands twice in one controller, told as its text
claimed_twice : valid
    (controllers_alone
    (a_controller (codes "f") 0 (interface.Joint (codes "j1") Effort ∷ interface.Joint (codes "j1") Effort ∷ []) []
    (Forward 2) ∷ [])) ≡ Err (NameTwice (codes "j1/effort"))
unfolding valid digits
claimed_twice = refl

-- a reduction that is not above 0
no_reduction : valid
    (controllers_alone
    (a_controller (codes "t") 0 (interface.Joint (codes "j1") Position ∷ []) [] (Transmission Position (pos 0) (pos 0))
    ∷ []))
    ≡ Err (BadRange (codes "controller[0].reduction"))
unfolding valid digits
no_reduction = refl

-- a differential of two kinds, and of efforts
differential_of_two_kinds : valid
    (controllers_alone
    (a_controller (codes "d") 0 (interface.Joint (codes "j1") Position ∷ interface.Joint (codes "j2") Velocity ∷ []) []
    (Differential Position (pos 1) (pos 1) (pos 0) (pos 0)) ∷ []))
    ≡ Err (BadRange (codes "controller[0].claims"))
unfolding valid digits
differential_of_two_kinds = refl

differential_of_efforts : valid
    (controllers_alone
    (a_controller (codes "d") 0 (interface.Joint (codes "j1") Effort ∷ interface.Joint (codes "j2") Effort ∷ []) []
    (Differential Effort (pos 0) (pos 1) (pos 0) (pos 0)) ∷ []))
    ≡ Err (BadRange (codes "controller[0].claims"))
unfolding valid digits
differential_of_efforts = refl

-- a limiter that reads a velocity, and one whose ends are the wrong way round
limiter_that_reads_a_velocity : valid
    (controllers_alone
    (a_controller (codes "l") 0 (interface.Joint (codes "j1") Position ∷ [])
    (interface.Joint (codes "j1") Velocity ∷ []) (Limiter (pos 1) (pos 0) (pos 0) (pos 0)) ∷ []))
    ≡ Err (BadRange (codes "controller[0].reads"))
unfolding valid digits
limiter_that_reads_a_velocity = refl

limiter_upside_down : valid
    (controllers_alone
    (a_controller (codes "l") 0 (interface.Joint (codes "j1") Position ∷ [])
    (interface.Joint (codes "j1") Position ∷ []) (Limiter (pos 1) (pos 0) (pos 0) (pos 0)) ∷ []))
    ≡ Err (BadRange (codes "controller[0].max"))
unfolding valid digits
limiter_upside_down = refl
