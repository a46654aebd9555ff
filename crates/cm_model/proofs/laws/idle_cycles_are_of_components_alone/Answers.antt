use Rattle.cm_model.proofs.StillLemmas.{cycle_is_idle}
use Rattle.cm_model.proofs.laws.idle_cycles_are_of_components_alone.Goals as goal

pub returns : goal.returns
returns c = cycle_is_idle
