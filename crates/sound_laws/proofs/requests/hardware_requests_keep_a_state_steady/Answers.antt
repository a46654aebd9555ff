use Rattle.cm_model.specs.Boundary.{component_place}
use Rattle.sound_laws.proofs.RequestLemmas.{hardware_steady}
use Rattle.sound_laws.proofs.requests.hardware_requests_keep_a_state_steady.Goals as goal

pub returns : goal.returns
returns c = λ s component target steady. hardware_steady s steady component target
    (component_place s.description component)
