use Rattle.cm_document.proofs.DescribedLemmas.{description-first}
use Rattle.cm_document.proofs.laws.the_first_of_all_faults_is_answered.Goals as goal

pub returns : goal.returns
returns c = description-first
