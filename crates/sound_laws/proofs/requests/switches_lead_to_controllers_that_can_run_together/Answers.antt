use Rattle.sound_laws.proofs.BestLemmas.{best_together}
use Rattle.sound_laws.proofs.StrictLemmas.{strict_together}
use Rattle.sound_laws.proofs.requests.switches_lead_to_controllers_that_can_run_together.Goals as goal

pub returns-clause-strict : goal.returns-clause-strict
returns-clause-strict c = λ s off on steady can. strict_together s steady off on can

pub returns-clause-best : goal.returns-clause-best
returns-clause-best c = λ s off on dropped set again steady is. best_together s steady off on dropped set again is
