use Rattle.cm_hardware.proofs.LentLemmas.{moved_is_held}
use Rattle.cm_hardware.proofs.PresentLemmas.{owned_is_available}
use Rattle.cm_hardware.proofs.laws.moved_hardware_is_that_of_the_state.Goals as goal

pub returns-clause-free : goal.returns-clause-free
returns-clause-free c = owned_is_available

pub returns-clause-hardware : goal.returns-clause-hardware
returns-clause-hardware c =
    λ s w valid together moved. moved_is_held s w (owned_is_available s valid together moved.lent.wired.interfaces)
    moved
