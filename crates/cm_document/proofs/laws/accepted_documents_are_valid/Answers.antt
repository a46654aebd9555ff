use Rattle.cm_document.proofs.DocumentLemmas.{document-IsValid}
use Rattle.cm_document.proofs.PlaceLemmas.{IsValid-EachStandsOnce}
use Rattle.cm_document.proofs.laws.accepted_documents_are_valid.Goals as goal

pub returns-clause-valid : goal.returns-clause-valid
returns-clause-valid c = document-IsValid

pub returns-clause-places : goal.returns-clause-places
returns-clause-places c =
    λ grammar bytes d accepted. IsValid-EachStandsOnce d.description (document-IsValid grammar bytes d accepted)
