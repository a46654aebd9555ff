-- A robot for worked rows, one joint and seven controllers, and what its calls come to by the definitions alone.
use Rattle.std.proofs.Common.{ℕ, Bool, false, List, [], ◌∷◌, pos}
use Rattle.std.specs.Prelude.{codes, Some, None}
use Rattle.iface_names.specs.declared.interface.IfaceName.{IfaceName}
use Rattle.iface_names.specs.declared.interface.IfaceName.TheVariants.{Joint, Reference}
use Rattle.iface_names.specs.declared.kind.Kind.TheVariants.{Position, Velocity}
use Rattle.cm_document.specs.Described.{a_controller, a_description, a_joint, a_component}
use Rattle.cm_document.specs.Params.{kind_of}
use Rattle.cm_document.specs.declared.call.Call.{Call}
use Rattle.cm_document.specs.declared.description.CompDesc.{CompDesc}
use Rattle.cm_document.specs.declared.description.CompKind.TheVariants.{System}
use Rattle.cm_document.specs.declared.description.CtlDesc.{CtlDesc}
use Rattle.cm_document.specs.declared.description.Description.{Description}
use Rattle.cm_document.specs.declared.description.Params.TheVariants.{Forward, Passthrough, Pid}
use Rattle.cm_document.specs.declared.description.Params.TheVariants.{Trajectory, Broadcaster, Mock}
use Rattle.cm_document.specs.declared.life.Life.TheVariants.{Unconfigured, Active}
pub use Rattle.cm_model.proofs.WorkedCalls.{made}
use Rattle.cm_model.proofs.WorkedCalls.{replies, after, ready}
use Rattle.cm_model.specs.Blanks.{blanks_of_each}
use Rattle.cm_model.specs.Controllers.{started}
use Rattle.cm_model.specs.Order.{controller_at}
use Rattle.cm_model.specs.Sound.{Moment}
use Rattle.cm_model.specs.State.{State, Loaded, boot}
use Rattle.cm_model.specs.Trace.{names_in}
use Rattle.cm_model.specs.declared.blanks.Blanks.{Blanks}

-- ---- The description

abbrev pub j1_position : IfaceName
j1_position = Joint (codes "j1") Position

abbrev pub j1_velocity : IfaceName
j1_velocity = Joint (codes "j1") Velocity

abbrev pub pid_reference : IfaceName
pid_reference = Reference (codes "pid") (codes "j1") Position

abbrev pub arm : CompDesc
arm = a_component (codes "arm") System Active Unconfigured [] []
    (a_joint (codes "j1") (pos 1000000) (pos 1000000) (pos 0) (pos 0) (pos 0) (Position ∷ Velocity ∷ [])
    (Position ∷ Velocity ∷ []) ∷ [])

-- a forward, a pid, a trajectory above it, another trajectory, a broadcaster, a mock, and a passthrough above the pid
abbrev pub controllers : List CtlDesc
controllers =
    a_controller (codes "fwd") 0 (j1_position ∷ []) [] (Forward 1)
    ∷ a_controller (codes "pid") 0 (j1_velocity ∷ []) (j1_position ∷ [])
    (Pid (pos 2000000) (pos 0) (pos 0) (pos 0) (pos 10000000))
    ∷ a_controller (codes "traj") 0 (pid_reference ∷ []) (j1_position ∷ []) (Trajectory 1)
    ∷ a_controller (codes "traj2") 0 (j1_position ∷ []) (j1_position ∷ []) (Trajectory 1)
    ∷ a_controller (codes "jsb") 0 [] (j1_position ∷ j1_velocity ∷ []) (Broadcaster 2)
    ∷ a_controller (codes "mk") 0 [] [] (Mock 0 false (2 ∷ []) (5 ∷ []))
    ∷ a_controller (codes "pt") 0 (pid_reference ∷ []) [] (Passthrough 1)
    ∷ []

abbrev pub robot : Description
robot = a_description 1 100 6 (arm ∷ []) controllers

abbrev pub stock : Blanks
stock = blanks_of_each 2

-- ---- States and moments

-- the replies from boot on, once these are ready
abbrev pub once_ready : List (List ℕ) → List Call → List (List ℕ)
once_ready names calls =
    replies (record (names_in robot []) { controllers = names }) (after (boot robot stock 1) (ready names)) calls

-- calls as the moments of a history
abbrev pub moments_of : State → List Call → List Moment
moments_of s [] = []
moments_of s (call ∷ calls) =
    record { before = s; call = call; reply = (made s call).1; after = (made s call).0 }
    ∷ moments_of (made s call).0 calls

-- a loaded controller that runs, chained or not
abbrev pub runs : ℕ → ℕ → Bool → Loaded
runs serial place chained =
    let params = (controller_at controllers place).params in
    record {
      serial = serial;
      place = place;
      rate = 0;
      divisor = Some 1;
      ctl = record
          { kind = kind_of params; params = Some params; run = Some (started params (pos 0 ∷ pos 0 ∷ []) chained) };
      mail = None;
    }

-- a loaded controller that is configured and does not run
abbrev pub rests : ℕ → ℕ → Loaded
rests serial place =
    let params = (controller_at controllers place).params in
    record {
      serial = serial;
      place = place;
      rate = 0;
      divisor = Some 1;
      ctl = record { kind = kind_of params; params = Some params; run = None };
      mail = None;
    }

-- the robot at boot, but for these controllers
abbrev pub with_running : List Loaded → State
with_running loaded = record (boot robot stock 1) { loaded = loaded }
