-- A second robot for worked rows: a lift and a wrist of two joints each, with a number of its own at every key, ten
-- controllers of which most have two claims, a chain of three, and what its calls come to by the definitions alone.
use Rattle.std.proofs.Common.{ℕ, true, false, List, [], ◌∷◌, pos}
use Rattle.std.specs.Prelude.{codes, map, neg_ℤ}
use Rattle.fixed_num.specs.declared.value.BodyState.{BodyState}
use Rattle.iface_names.specs.declared.interface.IfaceName.{IfaceName}
use Rattle.iface_names.specs.declared.interface.IfaceName.TheVariants.{Joint, Reference}
use Rattle.iface_names.specs.declared.kind.Kind.TheVariants.{Position, Velocity, Effort}
use Rattle.cm_document.specs.Described.{a_controller, a_description, a_joint, a_component}
use Rattle.cm_document.specs.Places.{interfaces_of}
use Rattle.cm_document.specs.declared.description.CtlKind.TheVariants as kind
use Rattle.cm_document.specs.declared.call.Call.{Call}
use Rattle.cm_document.specs.declared.description.CompDesc.{CompDesc}
use Rattle.cm_document.specs.declared.description.CompKind.TheVariants.{System}
use Rattle.cm_document.specs.declared.description.CtlDesc.{CtlDesc}
use Rattle.cm_document.specs.declared.description.Description.{Description}
use Rattle.cm_document.specs.declared.description.JointDesc.{JointDesc}
use Rattle.cm_document.specs.declared.description.Params.{Params}
use Rattle.cm_document.specs.declared.description.Params.TheVariants.{Forward, Passthrough, Pid}
use Rattle.cm_document.specs.declared.description.Params.TheVariants.{Trajectory, Broadcaster, Mock}
use Rattle.cm_document.specs.declared.life.Life.TheVariants.{Unconfigured, Inactive, Active, Finalized}
use Rattle.cm_model.proofs.WorkedCalls.{replies, after, ready}
use Rattle.cm_model.specs.Blanks.{blanks_of_each, with_one_more}
use Rattle.cm_model.specs.State.{State, boot}
use Rattle.cm_model.specs.Trace.{names_in}
use Rattle.cm_model.specs.Values.{unset, after_reads}
use Rattle.cm_model.specs.declared.blanks.Blanks.{Blanks}

-- ---- Components, in 200 cycles a second: a period has 5,000 microseconds

-- Of each joint: its highest velocity, its gain and damping, where it is and how fast it moves at first, its commands
-- and states. l1 is driven by position or by velocity, and moves 0.01 a cycle at most.
abbrev pub l1 : JointDesc
l1 = a_joint (codes "l1") (pos 2000000) (pos 1500000) (pos 250000) (pos 300000) (pos 100000)
    (Position ∷ Velocity ∷ []) (Velocity ∷ Position ∷ [])

-- l2 by position, and moves 0.0025 a cycle at most
abbrev pub l2 : JointDesc
l2 = a_joint (codes "l2") (pos 500000) (pos 1250000) (pos 125000) (neg_ℤ (pos 200000)) (pos 50000)
    (Position ∷ []) (Position ∷ [])

-- w1 by effort or by position, and moves 0.02 a cycle at most
abbrev pub w1 : JointDesc
w1 = a_joint (codes "w1") (pos 4000000) (pos 3000000) (pos 500000) (pos 1100000) (neg_ℤ (pos 400000))
    (Effort ∷ Position ∷ []) (Effort ∷ Position ∷ Velocity ∷ [])

-- w2 by position, and moves 0.006 a cycle at most
abbrev pub w2 : JointDesc
w2 = a_joint (codes "w2") (pos 1200000) (pos 2000000) (pos 750000) (pos 700000) (pos 900000)
    (Position ∷ []) (Position ∷ [])

-- The lift is active from the start. Its read fails in cycle 9 and its write in cycle 6, and it is unconfigured then.
abbrev pub lift : CompDesc
lift = a_component (codes "lift") System Active Unconfigured (9 ∷ []) (6 ∷ []) (l1 ∷ l2 ∷ [])

-- The wrist is inactive at first, so that its states are read and its joints stand. Its read fails in cycle 6, and it
-- is finalized then.
abbrev pub wrist : CompDesc
wrist = a_component (codes "wrist") System Inactive Finalized (6 ∷ []) [] (w1 ∷ w2 ∷ [])

-- ---- Controllers

abbrev pub l1_position : IfaceName
l1_position = Joint (codes "l1") Position

abbrev pub l1_velocity : IfaceName
l1_velocity = Joint (codes "l1") Velocity

abbrev pub l2_position : IfaceName
l2_position = Joint (codes "l2") Position

abbrev pub w1_effort : IfaceName
w1_effort = Joint (codes "w1") Effort

abbrev pub w1_position : IfaceName
w1_position = Joint (codes "w1") Position

abbrev pub w1_velocity : IfaceName
w1_velocity = Joint (codes "w1") Velocity

abbrev pub w2_position : IfaceName
w2_position = Joint (codes "w2") Position

-- references of the two passthroughs and of the pid
abbrev pub pass_l1 : IfaceName
pass_l1 = Reference (codes "pass") (codes "l1") Position

abbrev pub pass_l2 : IfaceName
pass_l2 = Reference (codes "pass") (codes "l2") Position

abbrev pub damp_l1 : IfaceName
damp_l1 = Reference (codes "damp") (codes "l1") Velocity

abbrev pub servo_l1 : IfaceName
servo_l1 = Reference (codes "servo") (codes "l1") Position

-- of the pid: the gains of the error, of its integral and of its derivative, and the limits of the integral and of
-- the output
abbrev pub gains : Params
gains = Pid (pos 2000000) (pos 3000000) (pos 10000) (pos 500000) (pos 1500000)

-- A trajectory, `plan`, stands above a passthrough, `pass`, and that above a pid, `servo`, and above l2: a chain of
-- three on the lift. A mock, `aim`, which is not ready in cycle 1 and fails in cycle 4, stands above another
-- passthrough, `damp`, and claims w1 besides. Three forwards claim a joint of each component. A broadcaster tells of
-- the wrist alone. The other mock refuses to be configured. `servo` is updated in every second cycle, `scope` in every
-- third, all others in each: 200 by 90 is 2, rounded down, and 200 by 60 is 3.
abbrev pub controllers : List CtlDesc
controllers =
    a_controller (codes "plan") 0 (pass_l1 ∷ pass_l2 ∷ []) (l1_position ∷ l2_position ∷ []) (Trajectory 2)
    ∷ a_controller (codes "damp") 250 (l1_velocity ∷ w2_position ∷ []) [] (Passthrough 2)
    ∷ a_controller (codes "jog") 0 (l1_velocity ∷ w1_position ∷ []) [] (Forward 2)
    ∷ a_controller (codes "pass") 200 (servo_l1 ∷ l2_position ∷ []) [] (Passthrough 2)
    ∷ a_controller (codes "aim") 0 (damp_l1 ∷ w1_effort ∷ []) (w2_position ∷ []) (Mock 2 false (1 ∷ []) (4 ∷ []))
    ∷ a_controller (codes "servo") 90 (l1_velocity ∷ []) (l1_position ∷ []) gains
    ∷ a_controller (codes "hold") 0 (l2_position ∷ w1_position ∷ []) [] (Forward 2)
    ∷ a_controller (codes "scope") 60 [] (w1_velocity ∷ w2_position ∷ w1_position ∷ []) (Broadcaster 3)
    ∷ a_controller (codes "deny") 0 (w2_position ∷ []) [] (Mock 1 true [] [])
    ∷ a_controller (codes "lean") 0 (l1_position ∷ w1_effort ∷ []) [] (Forward 2)
    ∷ []

abbrev pub robot : Description
robot = a_description 1 200 12 (lift ∷ wrist ∷ []) controllers

-- one blank of each kind, and two of forwards and of passthroughs
abbrev pub stock : Blanks
stock = with_one_more (with_one_more (blanks_of_each 1) kind.Forward) kind.Passthrough

-- ---- States and calls

-- the replies to these calls, in a state in which these controllers were loaded and configured in this order
abbrev pub once_ready_in : State → List (List ℕ) → List Call → List (List ℕ)
once_ready_in s names calls = replies (record (names_in robot []) { controllers = names }) (after s (ready names)) calls

-- from boot on
abbrev pub once_ready : List (List ℕ) → List Call → List (List ℕ)
once_ready names calls = once_ready_in (boot robot stock 1) names calls

-- the bodies of the four joints after some cycles, no number as described
abbrev pub moved_bodies : List BodyState
moved_bodies =
    record { x = pos 450000; v = pos 250000; f = pos 0 }
    ∷ record { x = pos 150000; v = neg_ℤ (pos 50000); f = pos 0 }
    ∷ record { x = pos 1250000; v = neg_ℤ (pos 350000); f = pos 150000 }
    ∷ record { x = pos 650000; v = pos 75000; f = pos 0 }
    ∷ []

-- the robot after so many cycles in which the joints came there, with nothing loaded
abbrev pub having_moved : ℕ → State
having_moved ended = record (boot robot stock 1) {
  bodies = moved_bodies;
  values = after_reads (λ component. true) moved_bodies (map unset (interfaces_of robot));
  ended = ended;
}
