use Rattle.sound_laws.proofs.LoanLemmas.{loans_hold}
use Rattle.sound_laws.proofs.loans.the_loans_of_a_steady_state_hold.Goals as goal

pub returns : goal.returns
returns c = loans_hold
