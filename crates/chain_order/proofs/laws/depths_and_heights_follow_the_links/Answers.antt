use Rattle.chain_order.proofs.DepthLemmas.{depth-settled, height-settled}
use Rattle.chain_order.proofs.laws.depths_and_heights_follow_the_links.Goals as goal

pub returns-clause-depth : goal.returns-clause-depth
returns-clause-depth c = λ cs set p free. depth-settled cs free set p

pub returns-clause-height : goal.returns-clause-height
returns-clause-height c = λ cs p free. height-settled cs free p
