use Rattle.cm_hardware.proofs.SameLemmas.{same_hardware}
use Rattle.cm_hardware.proofs.laws.hardware_goes_by_owners_and_what_is_available.Goals as goal

pub returns : goal.returns
returns c = λ s t w is description lives bodies values owned there. same_hardware s t owned there w is description lives
    bodies values
