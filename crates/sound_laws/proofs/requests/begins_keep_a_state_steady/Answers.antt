use Rattle.sound_laws.proofs.BoundaryLemmas.{boundary_steady, begin_steady}
use Rattle.sound_laws.proofs.requests.begins_keep_a_state_steady.Goals as goal

pub returns-clause-requests : goal.returns-clause-requests
returns-clause-requests c = boundary_steady

pub returns-clause-mail : goal.returns-clause-mail
returns-clause-mail c = begin_steady
