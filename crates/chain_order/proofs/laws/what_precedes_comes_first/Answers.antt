use Rattle.chain_order.proofs.OrderLemmas.{in_order-first, ordered-first}
use Rattle.chain_order.proofs.laws.what_precedes_comes_first.Goals as goal

pub returns-clause-first : goal.returns-clause-first
returns-clause-first c = λ cs ms free. ordered-first cs free ms

pub returns-clause-in_a_set : goal.returns-clause-in_a_set
returns-clause-in_a_set c = λ cs set ms free inside. in_order-first cs free set ms inside
