use Rattle.joint_body.proofs.BodyLemmas.{step_keeps_state}
use Rattle.joint_body.proofs.laws.every_state_stays_in_range.Goals as goal

pub returns : goal.returns
returns c = λ body mode command dt_us sound most state held. step_keeps_state body.plant mode command dt_us body.state
    sound most state held
