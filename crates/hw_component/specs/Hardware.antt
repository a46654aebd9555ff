-- A component as contracts see it, and what each of its calls makes of it.
use Rattle.std.specs.Prelude.{◌≡◌, ℕ, ◌<◌, ◌^◌, Bool, false, true, ◌&&◌, if◌then◌else◌, List, [], length, map, Option}
use Rattle.std.specs.Prelude.{Some, None, Result, Ok, Err, MatchResult, All}
use Rattle.fixed_num.specs.Bodies.{IsPlant}
use Rattle.fixed_num.specs.declared.value.BodyState.{BodyState}
use Rattle.fixed_num.specs.declared.value.JointMode.{JointMode}
use Rattle.fixed_num.specs.declared.value.Value.{Value}
use Rattle.cm_document.specs.declared.description.CompDesc.{CompDesc}
use Rattle.cm_document.specs.declared.life.Life.{Life}
use Rattle.cm_model.specs.Components.{write_runs, has_move, is_listed, plant_of, bodies_at_start, commands_at_start}
use Rattle.cm_model.specs.Components.{commands_after_move, command_interfaces, mode_fault, claimed_by, mode_of}
use Rattle.cm_model.specs.Components.{states_after_read, bodies_after_step}
use Rattle.hw_component.specs.declared.faults.HwFault.{HwFault}
use Rattle.hw_component.specs.declared.faults.HwFault.TheVariants.{NoSuchMove}
use Rattle.hw_component.specs.declared.faults.ModeFault.{ModeFault}

-- What is described of a component; its lifecycle state; the body of each joint; which of its command interfaces is
-- claimed on each joint; what its command interfaces held when it was written last; and whether it was written since
-- the last step.
pub record Hardware : Type 0 where
  pub description : CompDesc
  pub life : Life
  pub bodies : List BodyState
  pub claimed : List (Option ℕ)
  pub commands : List Value
  pub written : Bool

-- the mode of each joint
abbrev pub modes : Hardware → List JointMode
modes h = map (mode_of (command_interfaces h.description)) h.claimed

-- It has a body and a mode for each joint, and a place for each command interface.
pub record IsHardware (h : Hardware) : Type 0 where
  pub bodies : length h.bodies ≡ length h.description.joints
  pub claimed : length h.claimed ≡ length h.description.joints
  pub commands : length h.commands ≡ length (command_interfaces h.description)

-- ---- Making

-- What can be made: no joint has a negative number that its body moves by, and each joint has a number of 32 bits.
pub record CanBeMade (c : CompDesc) : Type 0 where
  pub plants : All (λ joint. IsPlant (plant_of joint)) c.joints
  pub joints : length c.joints < 2 ^ 32

-- At start it is in the described state, at rest where its joints begin; nothing is claimed, and nothing was written.
abbrev pub at_start : CompDesc → Hardware
at_start c = record {
  description = c;
  life = c.initial;
  bodies = bodies_at_start c;
  claimed = claimed_by c [];
  commands = commands_at_start c;
  written = false;
}

-- ---- Reads, writes and steps

-- what the places of its state interfaces hold after a read in a cycle
abbrev pub after_read : Hardware → ℕ → List Value → List Value
after_read h cycle values = states_after_read h.description h.life cycle h.bodies values

-- What a write of these commands in a cycle leaves: one that succeeds is applied, one that fails changes nothing.
abbrev pub after_write : Hardware → ℕ → List Value → Hardware
after_write h cycle commands = if is_listed h.description.fail_write cycle then h else record h {
  commands = commands;
  written = true;
}

-- Its joints are commanded where it is active and was written since the last step.
abbrev pub is_commanded : Hardware → Bool
is_commanded h = write_runs h.life && h.written

-- what a step leaves
abbrev pub after_step : Hardware → ℕ → Hardware
after_step h dt_us = record h {
  bodies = bodies_after_step h.description (is_commanded h) h.claimed h.commands dt_us h.bodies;
  written = false;
}

-- ---- Modes

-- That these claims can be together is told, or else the least joint on which they are at odds.
abbrev pub Prepares : Hardware → List ℕ → Result (Unit {0}) ModeFault → Type 0
Prepares h claims result =
    MatchResult result (λ _. mode_fault h.description claims ≡ None)
    (λ fault. mode_fault h.description claims ≡ Some fault.joint)

-- the joints go by these claims from now on
abbrev pub with_claims : Hardware → List ℕ → Hardware
with_claims h claims = record h { claimed = claimed_by h.description claims }

-- ---- Moves

-- whether there is a move to a state
abbrev pub moves : Hardware → Life → Result (Unit {0}) HwFault
moves h target = if has_move h.life target then Ok tt else Err NoSuchMove

-- what the move leaves; nothing changes where there is none
abbrev pub after_move : Hardware → Life → Hardware
after_move h target =
    if has_move h.life target then record h { life = target; commands = commands_after_move target h.commands } else h
