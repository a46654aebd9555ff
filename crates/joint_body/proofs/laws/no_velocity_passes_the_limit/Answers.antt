use Rattle.std.proofs.Common.{rules}
use Rattle.fixed_num.specs.Micro.{IsInRange}
use Rattle.joint_body.proofs.BodyLemmas.{velocity_is_limited}
use Rattle.joint_body.proofs.laws.no_velocity_passes_the_limit.Goals as goal

pub returns : goal.returns
returns c =
    let body = c.args.body.now in
    let fits : IsInRange body.state.x = search rules in
    velocity_is_limited body.plant c.args.mode c.args.command c.args.dt_us body.state c.state.ensures.sound c.requires
    fits
