use Rattle.std.proofs.Common.{◌≡◌, drop}
use Rattle.cm_model.specs.Order.{set_of}
use Rattle.cm_model.specs.Faults.{first_of}
use Rattle.cm_model.specs.Switches.{counted_of}
use Rattle.switch_plan.specs.View.{scene_of}
use Rattle.switch_plan.proofs.strict.first_of_kind.Given as goal

-- no fault of the members so far counts
abbrev pub invariant-loop-member : goal.invariant-loop-member
invariant-loop-member l =
    first_of (counted_of (scene_of l.proposal.view) (set_of l.proposal.set.now) (set_of l.proposal.on.now) l.kind)
    (drop l.member-index l.proposal.order.now)
    ≡ first_of (counted_of (scene_of l.proposal.view) (set_of l.proposal.set.now) (set_of l.proposal.on.now) l.kind)
    l.proposal.order.now
