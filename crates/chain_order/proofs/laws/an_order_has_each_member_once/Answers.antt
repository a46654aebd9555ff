use Rattle.std.proofs.Common.{refl}
use Rattle.chain_order.proofs.OrderLemmas.{in_order-once, ordered-once}
use Rattle.chain_order.proofs.laws.an_order_has_each_member_once.Goals as goal

pub returns-clause-once : goal.returns-clause-once
returns-clause-once c = λ cs ms. ordered-once cs ms

pub returns-clause-serials : goal.returns-clause-serials
returns-clause-serials c = λ cs ms. refl

pub returns-clause-in_a_set : goal.returns-clause-in_a_set
returns-clause-in_a_set c = λ cs set ms. in_order-once cs set ms
