use Rattle.std.proofs.Common.{◌≡◌, ℕ, ◌<◌, None, get_or}
use Rattle.cm_model.specs.Components.{claim_on}
use Rattle.hw_component.proofs.claims.claim_joints.Given as goal

-- the joints so far have their claims
abbrev pub invariant-loop-joint : goal.invariant-loop-joint
invariant-loop-joint l = (k : ℕ) → k < l.joint → get_or l.claimed k None ≡ claim_on l.commands l.claims k
