use Rattle.cm_desk.proofs.LoopLemmas.{stands_alike}
use Rattle.cm_desk.proofs.laws.entries_of_others_leave_the_loop_as_it_stood.Goals as goal

pub returns : goal.returns
returns c = stands_alike
