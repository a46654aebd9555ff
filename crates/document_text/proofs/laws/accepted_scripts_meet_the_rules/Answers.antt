use Rattle.document_text.proofs.RulesLemmas.{document-Rules}
use Rattle.document_text.proofs.laws.accepted_scripts_meet_the_rules.Goals as goal

pub returns-clause-rules : goal.returns-clause-rules
returns-clause-rules c = λ bytes d accepted. (document-Rules bytes d accepted).0

pub returns-clause-grammar : goal.returns-clause-grammar
returns-clause-grammar c = λ bytes d accepted. (document-Rules bytes d accepted).1
