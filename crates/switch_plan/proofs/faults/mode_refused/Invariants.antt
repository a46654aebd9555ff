use Rattle.std.proofs.Common.{◌≡◌, drop}
use Rattle.cm_model.specs.Order.{set_of}
use Rattle.cm_model.specs.Faults.{first_of, cause_if, is_mode_taken, joint_name}
use Rattle.cm_model.specs.declared.cause.Cause.TheVariants as cause
use Rattle.switch_plan.specs.View.{scene_of}
use Rattle.switch_plan.proofs.faults.mode_refused.Given as goal

-- the joints so far are not taken
abbrev pub invariant-loop-claim : goal.invariant-loop-claim
invariant-loop-claim l =
    first_of (λ i. cause_if (is_mode_taken (scene_of l.proposal.view) (set_of l.proposal.set.now) i)
    (cause.ModeRefused (joint_name i))) (drop l.claim-index l.claims)
    ≡ first_of (λ i. cause_if (is_mode_taken (scene_of l.proposal.view) (set_of l.proposal.set.now) i)
    (cause.ModeRefused (joint_name i))) l.claims
