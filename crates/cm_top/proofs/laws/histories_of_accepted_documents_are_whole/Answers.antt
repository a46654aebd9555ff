use Rattle.desk_jobs.proofs.DoneLemmas.{made_by-IsWhole}
use Rattle.document_text.proofs.RulesLemmas.{document-Rules}
use Rattle.cm_top.proofs.laws.histories_of_accepted_documents_are_whole.Goals as goal

pub returns : goal.returns
returns c = λ kind bytes d blanks accepted. made_by-IsWhole kind d blanks (document-Rules bytes d accepted).0
