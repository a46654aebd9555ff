use Rattle.cm_slots.proofs.FitLemmas.{fit_committed, fit_begun, fit_landed}
use Rattle.cm_slots.proofs.laws.controllers_stay_fit.Goals as goal

pub returns-clause-committed : goal.returns-clause-committed
returns-clause-committed c = fit_committed

pub returns-clause-begun : goal.returns-clause-begun
returns-clause-begun c = fit_begun

pub returns-clause-landed : goal.returns-clause-landed
returns-clause-landed c = fit_landed
