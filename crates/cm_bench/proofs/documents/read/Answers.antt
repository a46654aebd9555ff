use Rattle.document_text.proofs.RulesLemmas.{document-Rules}
use Rattle.cm_bench.proofs.documents.read.Goals as goal

-- an accepted script meets the rules
pub returns-in-Ok : goal.returns-in-Ok
returns-in-Ok c = (document-Rules _ _ c.in-Ok.ensures.reads).0
