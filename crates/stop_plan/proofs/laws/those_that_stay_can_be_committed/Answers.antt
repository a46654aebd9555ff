use Rattle.stop_plan.proofs.EndingLemmas.{stays_committed}
use Rattle.stop_plan.proofs.laws.those_that_stay_can_be_committed.Goals as goal

pub returns : goal.returns
returns c = λ s valid steady. stays_committed s valid steady
