use Rattle.chain_order.proofs.OrderLemmas.{in_order-sorted, ordered-sorted}
use Rattle.chain_order.proofs.laws.an_order_is_sorted_by_depth_and_then_by_serial.Goals as goal

pub returns-clause-sorted : goal.returns-clause-sorted
returns-clause-sorted c = λ cs ms others. ordered-sorted cs ms others

pub returns-clause-in_a_set : goal.returns-clause-in_a_set
returns-clause-in_a_set c = λ cs set ms each. in_order-sorted cs set ms each
