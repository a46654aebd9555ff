use Rattle.cm_hardware.proofs.OutputLemmas.{held_at, held_in_cycle}
use Rattle.cm_hardware.proofs.laws.the_board_holds_what_the_interfaces_hold.Goals as goal

pub returns-clause-at_rest : goal.returns-clause-at_rest
returns-clause-at_rest c = held_at

pub returns-clause-in_cycle : goal.returns-clause-in_cycle
returns-clause-in_cycle c = held_in_cycle
