use Rattle.std.proofs.Common.{◌≡◌, drop}
use Rattle.cm_model.specs.Order.{set_of}
use Rattle.cm_model.specs.Faults.{first_of, fault_of_kind, fault}
use Rattle.cm_model.specs.declared.fault_kind.TheConstants.{FAULT_KINDS}
use Rattle.switch_plan.specs.View.{scene_of}
use Rattle.switch_plan.proofs.faults.fault.Given as goal

-- no fault of the kinds so far
abbrev pub invariant-loop-kind : goal.invariant-loop-kind
invariant-loop-kind l =
    first_of (λ kind. fault_of_kind (scene_of l.proposal.view) (set_of l.proposal.set.now) (set_of l.proposal.on.now)
    kind l.place) (drop l.kind-index FAULT_KINDS)
    ≡ fault (scene_of l.proposal.view) (set_of l.proposal.set.now) (set_of l.proposal.on.now) l.place
