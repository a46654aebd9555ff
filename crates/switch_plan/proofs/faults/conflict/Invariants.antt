use Rattle.std.proofs.Common.{◌≡◌, drop}
use Rattle.cm_model.specs.Order.{set_of}
use Rattle.cm_model.specs.Faults.{first_of, conflict_over}
use Rattle.switch_plan.specs.View.{scene_of}
use Rattle.switch_plan.proofs.faults.conflict.Given as goal

-- no other member claims what stands before
abbrev pub invariant-loop-claim : goal.invariant-loop-claim
invariant-loop-claim l =
    first_of (conflict_over (scene_of l.proposal.view) (set_of l.proposal.set.now) l.place)
    (drop l.claim-index l.claims)
    ≡ first_of (conflict_over (scene_of l.proposal.view) (set_of l.proposal.set.now) l.place) l.claims
