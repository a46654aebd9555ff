-- One hardware component: how it moves between its lifecycle states, how a cycle reads and writes it, how its joints
-- are driven, and what its interfaces hold. The bodies of a component stand in the order of its joints, the values in
-- the order of its interfaces, joint by joint; joints and interfaces are counted from 0 within the component.
use Rattle.std.specs.Prelude.{ℕ, ◌+◌, ◌==◌, ℤ, pos, Bool, true, false, not, ◌&&◌, ◌||◌, if◌then◌else◌, List, [], ◌∷◌}
use Rattle.std.specs.Prelude.{◌++◌, length, map, replicate, find, slice_get, Option, Some, None, unwrap_or}
use Rattle.std.specs.List.{list_any, range_with_len}
use Rattle.std.specs.Option.{option_map_or}
use Rattle.fixed_num.specs.Bodies.{Plant, stopped, stepped}
use Rattle.fixed_num.specs.declared.value.BodyState.{BodyState}
use Rattle.fixed_num.specs.declared.value.JointMode.{JointMode}
use Rattle.fixed_num.specs.declared.value.JointMode.TheVariants as mode
use Rattle.fixed_num.specs.declared.value.Value.{Value}
use Rattle.fixed_num.specs.declared.value.Value.TheVariants.{Unset, Num}
use Rattle.iface_names.specs.declared.kind.Kind.{Kind}
use Rattle.iface_names.specs.declared.kind.Kind.TheVariants.{Position, Velocity, Effort}
pub use Rattle.cm_document.specs.Cycles.{is_listed}
use Rattle.cm_document.specs.declared.description.CompDesc.{CompDesc}
use Rattle.cm_document.specs.declared.description.JointDesc.{JointDesc}
use Rattle.cm_document.specs.declared.life.Life.{Life}
use Rattle.cm_document.specs.declared.life.Life.TheVariants.{Inactive, Active, Finalized}
use Rattle.cm_model.specs.declared.component.JointInterface.{JointInterface}
use Rattle.cm_storage.specs.declared.ran.Done.{Done}
use Rattle.cm_storage.specs.declared.ran.Done.TheVariants as done

-- ---- Lifecycle states

-- The interfaces of a component are available where it is inactive or active.
abbrev pub is_available : Life → Bool
is_available Inactive = true
is_available Active = true
is_available _ = false

-- Its read runs where its interfaces are available.
abbrev pub read_runs : Life → Bool
read_runs life = is_available life

-- Its write runs where it is active.
abbrev pub write_runs : Life → Bool
write_runs Active = true
write_runs _ = false

-- It moves from unconfigured, inactive or active to any state, the same one included; from finalized to finalized
-- alone.
abbrev pub has_move : Life → Life → Bool
has_move Finalized Finalized = true
has_move Finalized target = false
has_move life target = true

-- ---- Failures

-- How a read or a write that runs ends in a cycle: it fails where the cycle is listed.
abbrev pub ends : List ℕ → ℕ → Done
ends these cycle = if is_listed these cycle then done.Error else done.Ok

-- Its read fails in a cycle: it runs, and the cycle is listed.
abbrev pub read_fails : CompDesc → Life → ℕ → Bool
read_fails component life cycle = read_runs life && is_listed component.fail_read cycle

-- Its read succeeds.
abbrev pub read_succeeds : CompDesc → Life → ℕ → Bool
read_succeeds component life cycle = read_runs life && not (is_listed component.fail_read cycle)

-- Its turn to be written comes where it is active and its read of that cycle did not fail.
abbrev pub is_up_for_write : CompDesc → Life → ℕ → Bool
is_up_for_write component life cycle = write_runs life && not (read_fails component life cycle)

-- Its write fails in a cycle: its turn comes, and the cycle is listed.
abbrev pub write_fails : CompDesc → Life → ℕ → Bool
write_fails component life cycle = is_up_for_write component life cycle && is_listed component.fail_write cycle

-- It is written in a cycle: its write ran and did not fail.
abbrev pub is_written : CompDesc → Life → ℕ → Bool
is_written component life cycle = is_up_for_write component life cycle && not (is_listed component.fail_write cycle)

-- It failed in a cycle where its read or its write did.
abbrev pub has_failed : CompDesc → Life → ℕ → Bool
has_failed component life cycle = read_fails component life cycle || write_fails component life cycle

-- A component that failed in a cycle goes to the state that is described for it.
abbrev pub life_after : CompDesc → Life → ℕ → Life
life_after component life cycle = if has_failed component life cycle then component.on_error else life

-- ---- Bodies

-- what stays of the body of a joint
abbrev pub plant_of : JointDesc → Plant
plant_of joint = record { vmax = joint.vmax; gain = joint.gain; damping = joint.damping }

-- At start a body has the described position and velocity, and no effort.
abbrev pub body_at_start : JointDesc → BodyState
body_at_start joint = record { x = joint.position; v = joint.velocity; f = pos 0 }

abbrev pub bodies_at_start : CompDesc → List BodyState
bodies_at_start component = map body_at_start component.joints

-- ---- Interfaces

-- the interfaces of joints, the first of which has this number: of each joint one for each of these kinds, in their
-- order
abbrev pub interfaces_from : (JointDesc → List Kind) → ℕ → List JointDesc → List JointInterface
interfaces_from kinds number [] = []
interfaces_from kinds number (joint ∷ joints) = map (λ kind. record {
  joint = number;
  kind = kind;
}) (kinds joint) ++ interfaces_from kinds (number + 1) joints

-- the state interfaces of a component, each at its number
abbrev pub state_interfaces : CompDesc → List JointInterface
state_interfaces component = interfaces_from (λ joint. joint.states) 0 component.joints

-- its command interfaces, each at its number
abbrev pub command_interfaces : CompDesc → List JointInterface
command_interfaces component = interfaces_from (λ joint. joint.commands) 0 component.joints

-- as many values, each Unset
abbrev pub all_unset : List Value → List Value
all_unset values = replicate (length values) Unset

-- ---- What state interfaces hold

-- which number of a body an interface of this kind measures
abbrev pub measured : Kind → BodyState → ℤ
measured Position body = body.x
measured Velocity body = body.v
measured Effort body = body.f

-- what an interface measures of the body of its joint
abbrev pub measured_at : List BodyState → JointInterface → Value
measured_at bodies interface =
    option_map_or (λ body. Num (measured interface.kind body)) (slice_get bodies interface.joint) Unset

-- What the state interfaces of a component hold of its bodies.
abbrev pub measured_states : CompDesc → List BodyState → List Value
measured_states component bodies = map (measured_at bodies) (state_interfaces component)

-- What they hold after a cycle's read: the numbers of the bodies where it succeeded, else what they held.
abbrev pub states_after_read : CompDesc → Life → ℕ → List BodyState → List Value → List Value
states_after_read component life cycle bodies values =
    if read_succeeds component life cycle then measured_states component bodies else values

-- ---- What command interfaces hold

-- At start they hold nothing.
abbrev pub commands_at_start : CompDesc → List Value
commands_at_start component = replicate (length (command_interfaces component)) Unset

-- What they hold after a move to a state: nothing where the component becomes unconfigured or finalized, else what they
-- held.
abbrev pub commands_after_move : Life → List Value → List Value
commands_after_move target values = if is_available target then values else all_unset values

-- ---- Claims and modes. A claim is the number of a command interface.

-- the claim stands on this joint
abbrev pub stands_on : List JointInterface → ℕ → ℕ → Bool
stands_on commands joint claim = option_map_or (λ interface. interface.joint == joint) (slice_get commands claim) false

-- two different ones of the claims stand on this joint
abbrev pub is_contested : List JointInterface → List ℕ → ℕ → Bool
is_contested commands claims joint =
    list_any
    (λ claim. stands_on commands joint claim
    && list_any (λ other. stands_on commands joint other && not (claim == other)) claims) claims

-- The least joint on which two different claimed command interfaces stand.
abbrev pub mode_fault : CompDesc → List ℕ → Option ℕ
mode_fault component claims =
    find (is_contested (command_interfaces component) claims) (range_with_len 0 (length component.joints))

-- the claim that stands on this joint; the first, where several do
abbrev pub claim_on : List JointInterface → List ℕ → ℕ → Option ℕ
claim_on commands claims joint = find (stands_on commands joint) claims

-- the claimed command interface of each joint
abbrev pub claimed_by : CompDesc → List ℕ → List (Option ℕ)
claimed_by component claims =
    map (claim_on (command_interfaces component) claims) (range_with_len 0 (length component.joints))

-- how an interface of this kind drives a joint
abbrev pub mode_of_kind : Kind → JointMode
mode_of_kind Position = mode.Position
mode_of_kind Velocity = mode.Velocity
mode_of_kind Effort = mode.Effort

-- The mode of a joint is the kind of its claimed command interface, else Idle.
abbrev pub mode_of : List JointInterface → Option ℕ → JointMode
mode_of commands None = mode.Idle
mode_of commands (Some claim) =
    option_map_or (λ interface. mode_of_kind interface.kind) (slice_get commands claim) mode.Idle

-- what the claimed command interface of a joint holds
abbrev pub command_of : List Value → Option ℕ → Value
command_of values None = Unset
command_of values (Some claim) = unwrap_or (slice_get values claim) Unset

-- ---- Steps of bodies

-- the bodies of joints after a step in which each joint is driven by its claimed interface, of those that hold these
-- values
abbrev pub driven_bodies : List JointInterface → List Value → ℕ → List JointDesc → List (Option ℕ) → List BodyState
    → List BodyState
driven_bodies commands values dt_us (joint ∷ joints) (claim ∷ claims) (body ∷ bodies) =
    stepped (plant_of joint) (mode_of commands claim) (command_of values claim) dt_us body
    ∷ driven_bodies commands values dt_us joints claims bodies
driven_bodies commands values dt_us _ _ _ = []

-- The bodies of a component after a step: where it is active and was written in this cycle, each joint goes by its mode
-- and by what its claimed interface holds; else nobody commands any.
abbrev pub bodies_after_step : CompDesc → Bool → List (Option ℕ) → List Value → ℕ → List BodyState → List BodyState
bodies_after_step component is_commanded claimed values dt_us bodies =
    if is_commanded then driven_bodies (command_interfaces component) values dt_us component.joints claimed bodies
    else map stopped bodies
