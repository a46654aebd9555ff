use Rattle.cm_document.proofs.DescribedLemmas.{description-fits}
use Rattle.cm_document.proofs.laws.an_accepted_tree_has_its_form.Goals as goal

pub returns : goal.returns
returns c = description-fits
