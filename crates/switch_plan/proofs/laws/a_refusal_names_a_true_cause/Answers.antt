use Rattle.cm_document.specs.Picks.{flat}
use Rattle.switch_plan.proofs.CauseLemmas.{counts_true}
use Rattle.switch_plan.proofs.DecisionLemmas.{strict_refused, plan_refused}
use Rattle.switch_plan.proofs.laws.a_refusal_names_a_true_cause.Goals as goal

pub returns-clause-counts : goal.returns-clause-counts
returns-clause-counts c = λ scene off on d is. strict_refused scene off on d is

pub returns-clause-is_true : goal.returns-clause-is_true
returns-clause-is_true c = λ scene off on d is.
    counts_true scene off on d (strict_refused scene (flat scene.description off) (flat scene.description on) d is)

pub returns-clause-plan : goal.returns-clause-plan
returns-clause-plan c = λ scene r name why strict told.
    counts_true scene r.off r.on (record { name = name; cause = why })
    (strict_refused scene (flat scene.description r.off) (flat scene.description r.on)
    (record { name = name; cause = why }) (plan_refused scene r strict name why told))
