use Rattle.cm_hardware.proofs.PresentLemmas.{claims_are_there}
use Rattle.cm_hardware.proofs.laws.what_an_active_controller_claims_is_there.Goals as goal

pub returns : goal.returns
returns c = claims_are_there
