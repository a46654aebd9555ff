use Rattle.make_document.proofs.AcceptedLemmas.{made_is_accepted}
use Rattle.make_document.proofs.laws.made_documents_are_accepted.Goals as goal

pub returns : goal.returns
returns c = made_is_accepted
