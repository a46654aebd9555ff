use Rattle.cm_hardware.proofs.OutputLemmas.{output_in_cycle}
use Rattle.cm_hardware.proofs.laws.an_output_is_set_at_its_place.Goals as goal

pub returns : goal.returns
returns c = output_in_cycle
