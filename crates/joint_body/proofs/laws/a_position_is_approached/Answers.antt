use Rattle.std.proofs.Common.{rules}
use Rattle.fixed_num.specs.Micro.{IsInRange}
use Rattle.fixed_num.specs.Bodies.{stepped}
use Rattle.joint_body.proofs.BodyLemmas.{approach_is_near}
use Rattle.joint_body.proofs.laws.a_position_is_approached.Goals as goal

pub returns-clause-near : goal.returns-clause-near
unfolding stepped
returns-clause-near c =
    let body = c.args.body.now in
    let fits : IsInRange body.state.x = search rules in
    approach_is_near body.plant c.args.command body.state.x c.args.dt_us c.state.ensures.sound fits
