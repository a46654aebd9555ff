use Rattle.sound_laws.proofs.BoundaryLemmas.{switch_steady}
use Rattle.sound_laws.proofs.requests.switches_keep_a_state_steady.Goals as goal

pub returns : goal.returns
returns c = switch_steady
