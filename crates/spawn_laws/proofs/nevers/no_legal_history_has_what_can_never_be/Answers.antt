use Rattle.spawn_laws.proofs.NeverLemmas.{never_had}
use Rattle.spawn_laws.proofs.nevers.no_legal_history_has_what_can_never_be.Goals as goal

pub returns : goal.returns
returns c = never_had
