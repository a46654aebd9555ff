-- How the code keeps a component: each joint's body with what stays of it, and each interface with its joint and kind.
use Rattle.std.specs.Prelude.{◌≡◌, ℕ, ◌<◌, ◌^◌, Bool, if◌then◌else◌, List, length, map, zip, Option}
use Rattle.fixed_num.specs.Bodies.{Plant, stopped}
use Rattle.fixed_num.specs.declared.value.BodyState.{BodyState}
use Rattle.fixed_num.specs.declared.value.Value.{Value}
use Rattle.iface_names.specs.declared.kind.Kind.{Kind}
use Rattle.joint_body.specs.Simulated.{Simulated, after}
use Rattle.cm_document.specs.declared.description.CompDesc.{CompDesc}
use Rattle.cm_document.specs.declared.description.JointDesc.{JointDesc}
use Rattle.cm_model.specs.declared.component.JointInterface.{JointInterface}
use Rattle.cm_model.specs.Components.{plant_of, body_at_start, state_interfaces, command_interfaces, mode_of}
use Rattle.cm_model.specs.Components.{command_of}

-- the states of bodies
abbrev pub states_in : List Simulated → List BodyState
states_in bodies = map (λ body. body.state) bodies

-- what stays of them
abbrev pub plants_in : List Simulated → List Plant
plants_in bodies = map (λ body. body.plant) bodies

-- the interfaces of a joint, one for each of these kinds
abbrev pub of_joint : ℕ → List Kind → List JointInterface
of_joint joint kinds = map (λ kind. record { joint = joint; kind = kind }) kinds

-- the body of a described joint, as it begins
abbrev pub body_made : JointDesc → Simulated
body_made joint = record { plant = plant_of joint; state = body_at_start joint }

-- a body that goes on by its joint's claimed interface
abbrev pub driven : List JointInterface → List Value → ℕ → Option ℕ → Simulated → Simulated
driven commands values dt_us claim body = record body {
  state = after body (mode_of commands claim) (command_of values claim) dt_us;
}

-- each body by the claim of its joint
abbrev pub each_driven : List JointInterface → List Value → ℕ → List (Option ℕ) → List Simulated → List Simulated
each_driven commands values dt_us claimed bodies = map (λ p. driven commands values dt_us p.0 p.1) (zip claimed bodies)

-- a body that nobody commands
abbrev pub at_rest : Simulated → Simulated
at_rest body = record body { state = stopped body.state }

-- each body after a step, commanded or not
abbrev pub each_stepped : Bool → List JointInterface → List Value → ℕ → List (Option ℕ) → List Simulated
    → List Simulated
each_stepped is_commanded commands values dt_us claimed bodies =
    if is_commanded then each_driven commands values dt_us claimed bodies else map at_rest bodies

-- What is kept fits the description: the bodies are those of the joints, each joint has a claim or none, the interfaces
-- are those described, and a value is kept for each command interface.
pub record FitsDescription (c : CompDesc) (bodies : List Simulated) (claimed : List (Option ℕ))
    (states commands : List JointInterface) (applied : List Value) : Type 0 where
  pub few : length c.joints < 2 ^ 32
  pub each_body : length bodies ≡ length c.joints
  pub plants : plants_in bodies ≡ map plant_of c.joints
  pub each_claim : length claimed ≡ length c.joints
  pub states_are : states ≡ state_interfaces c
  pub commands_are : commands ≡ command_interfaces c
  pub each_value : length applied ≡ length commands
