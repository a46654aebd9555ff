use Rattle.std.proofs.Common.{◌≡◌, drop}
use Rattle.cm_model.specs.Order.{set_of}
use Rattle.cm_model.specs.Faults.{first_of}
use Rattle.cm_model.specs.Scene.{order}
use Rattle.cm_model.specs.Switches.{counted_of, first_member_fault}
use Rattle.cm_model.specs.declared.fault_kind.TheConstants.{FAULT_KINDS}
use Rattle.switch_plan.specs.View.{scene_of}
use Rattle.switch_plan.proofs.strict.first_member_fault.Given as goal

-- no fault of the kinds so far counts
abbrev pub invariant-loop-kind : goal.invariant-loop-kind
invariant-loop-kind l =
    first_of (λ kind. first_of
    (counted_of (scene_of l.proposal.view) (set_of l.proposal.set.now) (set_of l.proposal.on.now) kind)
    (order (scene_of l.proposal.view) (set_of l.proposal.set.now))) (drop l.kind-index FAULT_KINDS)
    ≡ first_member_fault (scene_of l.proposal.view) (set_of l.proposal.set.now) (set_of l.proposal.on.now)
