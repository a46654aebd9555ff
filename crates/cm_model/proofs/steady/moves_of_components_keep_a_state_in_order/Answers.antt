use Rattle.cm_model.proofs.MoveLemmas.{moved_in_order, moved_steady}
use Rattle.cm_model.proofs.steady.moves_of_components_keep_a_state_in_order.Goals as goal

pub returns-clause-in_order : goal.returns-clause-in_order
returns-clause-in_order c = moved_in_order

pub returns-clause-steady : goal.returns-clause-steady
returns-clause-steady c = moved_steady
