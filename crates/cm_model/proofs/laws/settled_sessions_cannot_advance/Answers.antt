use Rattle.cm_model.proofs.AdvanceLemmas.{settled-stands}
use Rattle.cm_model.proofs.laws.settled_sessions_cannot_advance.Goals as goal

pub returns : goal.returns
returns c = settled-stands
