use Rattle.std.proofs.Common.{None, length, arith}
use Rattle.std.proofs.lemmas.List.FromFn.{fill_by_all}
use Rattle.cm_model.specs.Components.{claim_on}
use Rattle.hw_component.proofs.claims.claim_joints.Goals as goal

pub returns : goal.returns
returns c =
    fill_by_all (claim_on c.args.commands.now c.args.claims.now) c.loop-joint.claimed (length c.args.claimed.now) None
    (omega arith)
    (λ k below. c.loop-joint.invariant k (omega (arith, below)))
