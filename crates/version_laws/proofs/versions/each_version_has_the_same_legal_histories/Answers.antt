use Rattle.version_laws.proofs.StepLemmas.{legal_in_each}
use Rattle.version_laws.proofs.versions.each_version_has_the_same_legal_histories.Goals as goal

pub returns : goal.returns
returns c = legal_in_each
