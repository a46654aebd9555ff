-- What the interfaces hold, place by place: what a read of components sets, what becomes Unset, and what a move of
-- components makes of it.
use Rattle.std.specs.Prelude.{ℕ, Bool, false, not, ◌&&◌, if◌then◌else◌, List, map, slice_get}
use Rattle.std.specs.Option.{option_map_or}
use Rattle.fixed_num.specs.declared.value.BodyState.{BodyState}
use Rattle.fixed_num.specs.declared.value.Value.{Value}
use Rattle.fixed_num.specs.declared.value.Value.TheVariants.{Unset}
use Rattle.iface_names.specs.declared.interface.IfaceName.{IfaceName}
use Rattle.cm_document.specs.Params.{kind_at}
use Rattle.cm_document.specs.Places.{Whose, of_joint, of_controller, Interface}
use Rattle.cm_document.specs.declared.life.Life.{Life}
use Rattle.cm_model.specs.Components.{is_available, measured_at}

-- an interface and what it holds
pub record InterfaceValue : Type 0 where
  pub interface : Interface
  pub value : Value

-- nobody has set it
abbrev pub unset : Interface → InterfaceValue
unset interface = record { interface = interface; value = Unset }

-- ---- Of which components. A set of components is a test of their places.

-- those that are inactive or active, by their lifecycle states
abbrev pub running : List Life → ℕ → Bool
running lives component = option_map_or is_available (slice_get lives component) false

-- an interface of one of these components
abbrev pub belongs_to : (ℕ → Bool) → Whose → Bool
belongs_to components (of_joint component joint) = components component
belongs_to components (of_controller place) = false

-- a state interface of one of these components
abbrev pub is_state_of : (ℕ → Bool) → Interface → Bool
is_state_of components interface = not interface.called.is_command && belongs_to components interface.whose

-- ---- Reads

-- what an interface of this name measures of the bodies of all joints; a reference measures none
abbrev pub shown : List BodyState → IfaceName → Whose → Value
shown bodies name (of_joint component joint) = measured_at bodies (record { joint = joint; kind = kind_at name })
shown bodies name (of_controller place) = Unset

-- one interface after a read of these components
abbrev pub read_of : (ℕ → Bool) → List BodyState → InterfaceValue → InterfaceValue
read_of components bodies v =
    if is_state_of components v.interface then record v {
      value = shown bodies v.interface.called.name v.interface.whose;
    } else v

-- These components are read: their state interfaces hold the numbers of the bodies, and all else stays.
abbrev pub after_reads : (ℕ → Bool) → List BodyState → List InterfaceValue → List InterfaceValue
after_reads components bodies values = map (read_of components bodies) values

-- ---- Moves

-- one interface after these components lost all that theirs hold
abbrev pub cleared_of : (ℕ → Bool) → InterfaceValue → InterfaceValue
cleared_of components v = if belongs_to components v.interface.whose then unset v.interface else v

-- All interfaces of these components become Unset, and all else stays.
abbrev pub cleared : (ℕ → Bool) → List InterfaceValue → List InterfaceValue
cleared components values = map (cleared_of components) values

-- Components come from lifecycle states to others. The interfaces of those that are not available then become Unset;
-- the state interfaces of those that were not available, and are then, hold the numbers of the bodies.
abbrev pub after_moves : List Life → List Life → List BodyState → List InterfaceValue → List InterfaceValue
after_moves before after bodies values =
    after_reads (λ component. running after component && not (running before component)) bodies
    (cleared (λ component. not (running after component)) values)
