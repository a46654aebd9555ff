use Rattle.cm_words.proofs.ExactLemmas.{accepted_alone}
use Rattle.cm_words.proofs.Rows.{listed_accepted}
use Rattle.cm_words.proofs.laws.jobs_are_asked_for_by_these_words.Goals as goal

pub returns-clause-accepted : goal.returns-clause-accepted
returns-clause-accepted c = listed_accepted

pub returns-clause-alone : goal.returns-clause-alone
returns-clause-alone c = accepted_alone
