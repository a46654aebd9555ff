use Rattle.cm_model.proofs.CountLemmas.{ends_append, decided_append, ends_grow, decided_grow}
use Rattle.cm_model.proofs.laws.counts_add_up_and_never_fall.Goals as goal

pub returns-clause-ends : goal.returns-clause-ends
returns-clause-ends c = ends_append

pub returns-clause-decided : goal.returns-clause-decided
returns-clause-decided c = decided_append

pub returns-clause-never_fall : goal.returns-clause-never_fall
returns-clause-never_fall c = λ made more. (ends_grow made more, decided_grow made more)
