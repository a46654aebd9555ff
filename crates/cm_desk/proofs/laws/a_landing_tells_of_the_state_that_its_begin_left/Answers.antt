use Rattle.cm_desk.proofs.LoopLemmas.{lands_as_begun}
use Rattle.cm_desk.proofs.laws.a_landing_tells_of_the_state_that_its_begin_left.Goals as goal

pub returns : goal.returns
returns c = lands_as_begun
