use Rattle.switch_plan.proofs.requests.flat_decided.Goals as goal

pub returns-in_ok-plan : goal.returns-in_ok-plan
returns-in_ok-plan c = rw c.if-whole.true c.in_ok-plan.ensures
