use Rattle.cm_words.specs.declared.job.JobKind.TheVariants.{Live}
use Rattle.cm_top.specs.Answering.{answering_of}
use Rattle.cm_top.proofs.AnswerLemmas.{accepted-RefusesWords, job-never_words}
use Rattle.cm_top.proofs.top.run.Goals as goal

-- words that ask for a job are not refused
pub returns-in-Live-clause-words : goal.returns-in-Live-clause-words
returns-in-Live-clause-words g c =
    accepted-RefusesWords _ _ _ _ _ _ _ c.in-Ok.job c.in-Ok.ensures.answer
    (job-never_words (answering_of Live)
    (record { kind = Live; make = c.in-Ok.job.make; workers = c.in-Ok.job.workers }) c.args.stock _ _ _ _ _ _
    c.run_live.ensures.runs)

pub returns-in-Run-clause-words : goal.returns-in-Run-clause-words
returns-in-Run-clause-words g c =
    accepted-RefusesWords _ _ _ _ _ _ _ c.in-Ok.job c.in-Ok.ensures.answer
    (job-never_words (answering_of c.in-Ok.job.kind) c.in-Ok.job c.args.stock _ _ _ _ _ _ c.run_scheduled.ensures.runs)
