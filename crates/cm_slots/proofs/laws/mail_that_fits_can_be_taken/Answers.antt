use Rattle.cm_slots.proofs.FitLemmas.{sent_fits}
use Rattle.cm_slots.proofs.laws.mail_that_fits_can_be_taken.Goals as goal

pub returns : goal.returns
returns c = sent_fits
