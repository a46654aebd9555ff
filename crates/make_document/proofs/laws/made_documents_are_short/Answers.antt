use Rattle.make_document.proofs.SizeLemmas.{made_is_short}
use Rattle.make_document.proofs.laws.made_documents_are_short.Goals as goal

pub returns : goal.returns
returns c = made_is_short
