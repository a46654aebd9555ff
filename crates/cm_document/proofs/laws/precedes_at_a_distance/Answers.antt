use Rattle.cm_document.proofs.ChainLemmas.{far_iff_HasChain}
use Rattle.cm_document.proofs.laws.precedes_at_a_distance.Goals as goal

pub returns : goal.returns
returns c = far_iff_HasChain
