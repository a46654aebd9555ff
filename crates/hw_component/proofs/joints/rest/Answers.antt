use Rattle.std.proofs.Common.{◌<◌, length, arith}
use Rattle.std.proofs.lemmas.List.{get_or_default}
use Rattle.std.proofs.lemmas.List.Edits.{map_over_more}
use Rattle.fixed_num.specs.Bodies.{stepped}
use Rattle.hw_component.specs.Drives.{at_rest}
use Rattle.hw_component.proofs.joints.rest.Goals as goal

pub loop-joint-preserved : goal.loop-joint-preserved
unfolding stepped
loop-joint-preserved c =
    let below : c.loop-joint.joint < length c.loop-joint.bodies = omega arith in
    rw c.step.ensures
    (map_over_more at_rest c.args.bodies.now c.loop-joint.bodies c.loop-joint.joint _ c.loop-joint-test.true
    c.loop-joint.invariant (get_or_default _ _ _ _ below))
