-- The document that a made text is: its description and its script.
use Rattle.std.specs.Prelude.{ℕ, ◌+◌, ◌*◌, ℤ, pos, true, List, [], ◌∷◌, ◌++◌, map, codes}
use Rattle.fixed_num.specs.declared.TheConstants.{MICRO}
use Rattle.iface_names.specs.declared.interface.IfaceName.TheVariants.{Joint}
use Rattle.iface_names.specs.declared.kind.Kind.TheVariants.{Position}
use Rattle.cm_document.specs.Described.{a_controller, a_component, a_description, a_joint}
use Rattle.cm_document.specs.declared.call.Call.{Call}
use Rattle.cm_document.specs.declared.call.Call.TheVariants as call
use Rattle.cm_document.specs.declared.call.Mail.TheVariants.{Values}
use Rattle.cm_document.specs.declared.call.Pick.TheVariants.{One}
use Rattle.cm_document.specs.declared.call.SwitchRequest.{SwitchRequest}
use Rattle.cm_document.specs.declared.description.CompDesc.{CompDesc}
use Rattle.cm_document.specs.declared.description.CompKind.TheVariants.{System}
use Rattle.cm_document.specs.declared.description.CtlDesc.{CtlDesc}
use Rattle.cm_document.specs.declared.description.Description.{Description}
use Rattle.cm_document.specs.declared.description.JointDesc.{JointDesc}
use Rattle.cm_document.specs.declared.description.Params.TheVariants.{Forward}
use Rattle.cm_document.specs.declared.document.Document.{Document}
use Rattle.cm_document.specs.declared.life.Life.TheVariants.{Unconfigured, Active}
use Rattle.cm_document.specs.declared.script.Script.{Script}
use Rattle.make_document.specs.declared.TheConstants.{JOINTS, CYCLES_A_ROUND}
use Rattle.make_document.specs.Made.{all_below, joint_name, controller_name, sent_to, restarted, hundredths}

-- ---- The description

-- a joint of at most one unit a second
abbrev pub joint_meant : ℕ → JointDesc
joint_meant i = a_joint (joint_name i) (pos MICRO) (pos MICRO) (pos 0) (pos 0) (pos 0) (Position ∷ []) (Position ∷ [])

-- a forward that claims its joint's position
abbrev pub controller_meant : ℕ → CtlDesc
controller_meant i = a_controller (controller_name i) 0 (Joint (joint_name i) Position ∷ []) [] (Forward 1)

-- the one component
abbrev pub component_meant : CompDesc
component_meant =
    a_component (codes "sys") System Active Unconfigured [] [] (all_below (λ i. joint_meant i ∷ []) JOINTS)

-- the robot that runs for so many cycles
abbrev pub robot_meant : ℕ → Description
robot_meant cycles = a_description 1 100 cycles (component_meant ∷ []) (all_below (λ i. controller_meant i ∷ []) JOINTS)

-- ---- The script

-- a strict switch of these controllers
abbrev pub strictly : List (List ℕ) → List (List ℕ) → SwitchRequest
strictly off on = record { on = map One on; off = map One off; strict = true }

-- all controllers are loaded, configured and started
unfoldable pub opening_calls : List Call
opening_calls =
    all_below (λ i. call.Load (controller_name i) ∷ []) JOINTS
    ++ all_below (λ i. call.Configure (controller_name i) ∷ []) JOINTS
    ++ call.Switch (strictly [] (all_below (λ i. controller_name i ∷ []) JOINTS)) ∷ []

-- what is sent in a round, in micro-units
abbrev pub value_sent : ℕ → ℤ
value_sent k = pos (10000 * hundredths k)

-- a round
abbrev pub round_calls : ℕ → List Call
round_calls k =
    call.Send (controller_name (sent_to k)) (Values (value_sent k ∷ []))
    ∷ call.Switch (strictly (controller_name (restarted k) ∷ []) [])
    ∷ call.Switch (strictly [] (controller_name (restarted k) ∷ []))
    ∷ call.Await (CYCLES_A_ROUND * k) ∷ []

-- so many rounds
abbrev pub rounds_calls : ℕ → List Call
rounds_calls rounds = all_below (λ done. round_calls (done + 1)) rounds

-- one session, `a`, and no turns
abbrev pub script_meant : ℕ → Script
script_meant rounds = record {
  sessions = record { name = codes "a"; lines = opening_calls ++ rounds_calls rounds } ∷ [];
  schedule = [];
}

-- ---- The document

-- the document of so many rounds
abbrev pub made_document : ℕ → Document
made_document rounds = record { description = robot_meant (CYCLES_A_ROUND * rounds); script = script_meant rounds }
