-- What is told of descriptions that no text reaches, as a joint of a text has each kind of interface once: computed
-- from the definition.
use Rattle.std.proofs.Common.{◌≡◌, refl, ℕ, zero, suc, List, [], ◌∷◌, ◌++◌, replicate, Ok, Err, pos}
use Rattle.std.specs.Prelude.{codes}
use Rattle.std.specs.Fmt.{decimal, digits}
use Rattle.iface_names.specs.declared.kind.Kind.TheVariants.{Position, Effort}
use Rattle.cm_document.specs.Described.{a_description, a_joint, a_component}
use Rattle.cm_document.specs.Valid.{valid}
use Rattle.cm_document.specs.declared.description.CompDesc.{CompDesc}
use Rattle.cm_document.specs.declared.description.CompKind.TheVariants.{System}
use Rattle.cm_document.specs.declared.description.Description.{Description}
use Rattle.cm_document.specs.declared.description.JointDesc.{JointDesc}
use Rattle.cm_document.specs.declared.faults.CheckFault.TheVariants.{TooMany}
use Rattle.cm_document.specs.declared.faults.What.TheVariants.{Joints, States, Commands}
use Rattle.cm_document.specs.declared.life.Life.TheVariants.{Unconfigured, Active}
use Rattle.desc_check.specs.Verdict.{verdict}

-- so many of these, by their numbers from 0 on
abbrev numbered : {A : Type 0} → (ℕ → A) → ℕ → List A
numbered make zero = []
numbered make (suc n) = numbered make n ++ make n ∷ []

-- a joint of a system, with so many commands and states, all of one kind
abbrev joint : ℕ → ℕ → ℕ → ℕ → JointDesc
joint commands states system number =
    a_joint (codes "j" ++ decimal system ++ codes "_" ++ decimal number) (pos 0) (pos 0) (pos 0) (pos 0) (pos 0)
    (replicate commands Effort) (replicate states Position)

-- a system of so many joints
abbrev system : ℕ → ℕ → ℕ → ℕ → CompDesc
system joints commands states number =
    a_component (codes "c" ++ decimal number) System Active Unconfigured [] []
    (numbered (joint commands states number) joints)

-- so many systems, each of so many joints with so many commands and states each
abbrev systems : ℕ → ℕ → ℕ → ℕ → Description
systems count joints commands states = a_description 1 100 5 (numbered (system joints commands states) count) []

-- the same in the second version
abbrev systems_of_second : ℕ → ℕ → ℕ → ℕ → Description
systems_of_second count joints commands states =
    a_description 2 100 5 (numbered (system joints commands states) count) []

most_states : verdict (systems 1 1 0 96) ≡ Ok tt
unfolding verdict valid digits
most_states = refl

one_state_more : verdict (systems 1 1 0 97) ≡ Err (TooMany States)
unfolding verdict valid digits
one_state_more = refl

-- of several joints together
states_of_seven : verdict (systems 7 1 0 14) ≡ Err (TooMany States)
unfolding verdict valid digits
states_of_seven = refl

most_commands : verdict (systems 1 1 96 0) ≡ Ok tt
unfolding verdict valid digits
most_commands = refl

commands_of_two : verdict (systems 1 2 49 0) ≡ Err (TooMany Commands)
unfolding verdict valid digits
commands_of_two = refl

-- too many states are told before too many commands, and too many joints before both
states_and_commands : verdict (systems 1 1 97 97) ≡ Err (TooMany States)
unfolding verdict valid digits
states_and_commands = refl

joints_and_the_rest : verdict (systems 1 33 3 3) ≡ Err (TooMany Joints)
unfolding verdict valid digits
joints_and_the_rest = refl

-- the second version has more room
most_states_of_second : verdict (systems_of_second 1 1 0 192) ≡ Ok tt
unfolding verdict valid digits
most_states_of_second = refl

one_state_more_of_second : verdict (systems_of_second 1 1 0 193) ≡ Err (TooMany States)
unfolding verdict valid digits
one_state_more_of_second = refl

most_commands_of_second : verdict (systems_of_second 1 1 192 0) ≡ Ok tt
unfolding verdict valid digits
most_commands_of_second = refl

joints_of_second : verdict (systems_of_second 1 65 3 3) ≡ Err (TooMany Joints)
unfolding verdict valid digits
joints_of_second = refl
