use Rattle.std.proofs.Common.{◌<◌, length, arith}
use Rattle.std.proofs.lemmas.List.{get_or_default}
use Rattle.std.proofs.lemmas.Slice.Zip.{length-zip}
use Rattle.hw_component.specs.Drives.{driven}
use Rattle.sequence.proofs.ListLemmas.{written_all}
use Rattle.std.specs.Prelude.{zip}
use Rattle.hw_component.proofs.JointLemmas.{driven_more}
use Rattle.hw_component.proofs.joints.drive.Goals as goal

pub loop-joint-preserved : goal.loop-joint-preserved
loop-joint-preserved c =
    let below : c.loop-joint.joint < length c.loop-joint.bodies = omega arith in
    driven_more c.args.commands.now c.args.values.now c.args.dt_us c.args.claimed.now c.args.bodies.now
    c.loop-joint.bodies c.loop-joint.joint _
    _ c.step.new.self c.loop-joint-test.true c.requires.claims c.loop-joint.invariant
    (get_or_default _ _ _ _ c.loop-joint-test.true) (get_or_default _ _ _ _ below)
    (rw (c.mode_of-mode.ensures, c.command_of-command.ensures) at c.step.ensures)

pub returns : goal.returns
returns c =
    let pairs = length-zip c.args.claimed.now c.args.bodies.now in
    written_all (λ p. driven c.args.commands.now c.args.values.now c.args.dt_us p.0 p.1)
    (zip c.args.claimed.now c.args.bodies.now) c.loop-joint.bodies
    c.args.bodies.now c.loop-joint.joint (omega (arith, pairs)) (omega (arith, pairs)) c.loop-joint.invariant
