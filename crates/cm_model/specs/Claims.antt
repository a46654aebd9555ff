-- What one controller has of the interfaces: the states that it reads, its references, what it gives out to its claims,
-- and whose components it uses.
use Rattle.std.specs.Prelude.{ℕ, ℤ, pos, Bool, false, not, ◌&&◌, if◌then◌else◌, List, [], ◌∷◌, ◌++◌, map, Option, Some}
use Rattle.std.specs.Prelude.{None, unwrap_or}
use Rattle.std.specs.List.{list_any}
use Rattle.std.specs.Option.{option_map_or}
use Rattle.fixed_num.specs.declared.value.Value.{Value}
use Rattle.fixed_num.specs.declared.value.Value.TheVariants.{Unset, Num}
use Rattle.iface_names.specs.Interfaces.{same_interface}
use Rattle.iface_names.specs.declared.interface.IfaceName.{IfaceName}
use Rattle.cm_document.specs.Links.{refs_of}
use Rattle.cm_document.specs.Places.{Called}
use Rattle.cm_document.specs.declared.description.CompDesc.{CompDesc}
use Rattle.cm_document.specs.declared.description.CtlDesc.{CtlDesc}
use Rattle.cm_model.specs.Controllers.{Stepped}
use Rattle.cm_model.specs.Faults.{component_with}
use Rattle.cm_model.specs.Values.{InterfaceValue}
use Rattle.cm_storage.specs.declared.ran.Done.TheVariants as done

-- ---- What it reads

-- a state interface of this name
abbrev pub is_state_named : IfaceName → Called → Bool
is_state_named name called = not called.is_command && same_interface called.name name

-- a command interface or a reference of this name
abbrev pub is_command_named : IfaceName → Called → Bool
is_command_named name called = called.is_command && same_interface called.name name

-- what the interface holds that passes the test; Unset, where none does
abbrev pub value_where : (Called → Bool) → List InterfaceValue → Value
value_where test [] = Unset
value_where test (v ∷ vs) = if test v.interface.called then v.value else value_where test vs

-- The number that a value is. Unset stands for 0; what an active controller reads is never Unset.
abbrev pub number_in : Value → ℤ
number_in Unset = pos 0
number_in (Num n) = n

-- the numbers of the state interfaces that a controller reads, in order
abbrev pub states_for : List InterfaceValue → CtlDesc → List ℤ
states_for values c = map (λ name. number_in (value_where (is_state_named name) values)) c.reads

-- its references as they stand, in order
abbrev pub refs_for : List InterfaceValue → CtlDesc → List Value
refs_for values c = map (λ name. value_where (is_command_named name) values) (refs_of c)

-- ---- What it gives out

-- what is given out to the interface of this name, where it is one of these claims: each has the output of its place
abbrev pub output_for : List IfaceName → List Value → IfaceName → Option Value
output_for (claim ∷ claims) (out ∷ outs) name =
    if same_interface claim name then Some out else output_for claims outs name
output_for _ _ name = None

-- one interface after these outputs
abbrev pub given_of : List IfaceName → List Value → InterfaceValue → InterfaceValue
given_of claims outs v =
    if v.interface.called.is_command then record v {
      value = unwrap_or (output_for claims outs v.interface.called.name) v.value;
    } else v

-- The claims hold these outputs, and all else stays.
abbrev pub given : List IfaceName → List Value → List InterfaceValue → List InterfaceValue
given claims outs values = map (given_of claims outs) values

-- A step gives its outputs to the claims, after an error nothing.
abbrev pub given_by : List IfaceName → Stepped → List InterfaceValue → List InterfaceValue
given_by claims step values = elim step.done [ done.Ok ↦ given claims step.outs values | done.Error ↦ values ]

-- ---- What it uses

-- A controller uses a component where it claims or reads one of its interfaces: here one of those that pass the test.
abbrev pub uses : List CompDesc → (ℕ → Bool) → CtlDesc → Bool
uses components test c =
    list_any (λ name. option_map_or test (component_with components name) false) (c.claims ++ c.reads)
