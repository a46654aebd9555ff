use Rattle.draw_causes.specs.Words.{cause_mend}
use Rattle.draw_causes.proofs.WordLemmas.{at_case}
use Rattle.draw_causes.proofs.causes.push_cause_mend.Goals as goal

pub returns-in_ok-write-in-Conflict : goal.returns-in_ok-write-in-Conflict
returns-in_ok-write-in-Conflict c =
    at_case _ (λ cause. cause_mend c.args.name.now cause) c.in-Conflict.is c.in_ok-write-in-Conflict.ensures.bytes

pub returns-in_ok-write-in-InUse : goal.returns-in_ok-write-in-InUse
returns-in_ok-write-in-InUse c =
    at_case _ (λ cause. cause_mend c.args.name.now cause) c.in-InUse.is c.in_ok-write-in-InUse.ensures.bytes
