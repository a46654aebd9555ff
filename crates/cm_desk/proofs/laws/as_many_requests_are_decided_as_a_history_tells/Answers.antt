use Rattle.cm_desk.proofs.LoopLemmas.{decided_after}
use Rattle.cm_desk.proofs.laws.as_many_requests_are_decided_as_a_history_tells.Goals as goal

pub returns : goal.returns
returns c = decided_after
