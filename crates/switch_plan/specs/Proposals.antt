-- A set of controllers that is proposed to be active.
use Rattle.std.specs.Prelude.{◌≡◌, Option}
use Rattle.iface_names.specs.declared.interface.IfaceName.{IfaceName}
use Rattle.cm_model.specs.Order.{Places, set_of}
use Rattle.cm_model.specs.Scene.{Scene, controllers_in, order}
use Rattle.cm_model.specs.Faults.{cause_if, is_missing, is_mode_taken, joint_name}
use Rattle.cm_model.specs.declared.cause.Cause.{Cause}
use Rattle.cm_model.specs.declared.cause.Cause.TheVariants as cause
use Rattle.switch_plan.specs.View.{scene_of, IsView, HavePlaces}
use Rattle.switch_plan.specs.declared.faults.Proposal.{Proposal}

-- the scene of a proposal
abbrev pub proposal_scene : Proposal → Scene
proposal_scene p = scene_of p.view

-- the set that is proposed
abbrev pub proposed : Proposal → Places
proposed p = set_of p.set.now

-- the controllers that the list to activate names
abbrev pub asked_on : Proposal → Places
asked_on p = set_of p.on.now

-- the fault that an interface is a reference whose exporter is not proposed
abbrev pub missing_from : Proposal → IfaceName → Option Cause
missing_from p i = cause_if (is_missing (controllers_in (proposal_scene p)) (proposed p) i) (cause.MissingFollower i)

-- the fault that a member claims another command interface of its joint
abbrev pub mode_taken_in : Proposal → IfaceName → Option Cause
mode_taken_in p i = cause_if (is_mode_taken (proposal_scene p) (proposed p) i) (cause.ModeRefused (joint_name i))

-- the members stand in their order
pub record IsProposal (p : Proposal) : Type 0 where
  pub view : IsView p.view
  pub within : HavePlaces (scene_of p.view) p.order.now
  pub order : p.order.now ≡ order (scene_of p.view) (set_of p.set.now)
