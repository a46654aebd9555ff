use Rattle.std.proofs.Common.{◌≡◌, drop}
use Rattle.cm_model.specs.Order.{set_of}
use Rattle.cm_model.specs.Scene.{controllers_in}
use Rattle.cm_model.specs.Faults.{first_of, cause_if, is_missing}
use Rattle.cm_model.specs.declared.cause.Cause.TheVariants as cause
use Rattle.switch_plan.specs.View.{scene_of}
use Rattle.switch_plan.proofs.faults.missing_follower.Given as goal

-- the claims so far are not missing
abbrev pub invariant-loop-claim : goal.invariant-loop-claim
invariant-loop-claim l =
    first_of (λ i. cause_if (is_missing (controllers_in (scene_of l.proposal.view)) (set_of l.proposal.set.now) i)
    (cause.MissingFollower i)) (drop l.claim-index l.claims)
    ≡ first_of (λ i. cause_if (is_missing (controllers_in (scene_of l.proposal.view)) (set_of l.proposal.set.now) i)
    (cause.MissingFollower i)) l.claims
