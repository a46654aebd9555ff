use Rattle.desk_turns.proofs.RulesLemmas.{rules_few, rules_lines}
use Rattle.desk_jobs.proofs.DoneLemmas.{run_done, steps_done}
use Rattle.desk_jobs.proofs.job.desk_of_job.Goals as goal

-- a script that meets the rules has few sessions, with lines that they can make
pub run_job-requires : goal.run_job-requires
run_job-requires g c = record { few = rules_few _ c.requires.rules; lines = rules_lines _ c.requires.rules }

pub run_in_steps-requires : goal.run_in_steps-requires
run_in_steps-requires g c = record { few = rules_few _ c.requires.rules; lines = rules_lines _ c.requires.rules }

-- the job was made to its end
pub returns-in_ok-run_job-in-Run : goal.returns-in_ok-run_job-in-Run
returns-in_ok-run_job-in-Run g c =
    rw c.in-Run.is
    (run_done (record { description = c.args.checked; script = c.args.script.now }) c.args.stock _ _ c.requires.rules
    c.in_ok-run_job-in-Run.ensures.opening c.in_ok-run_job-in-Run.ensures.scheduled c.into_desk.ensures.desk
    c.into_desk.ensures.right)

pub returns-in_ok-run_in_steps-in-Steps : goal.returns-in_ok-run_in_steps-in-Steps
returns-in_ok-run_in_steps-in-Steps g c =
    rw c.in-Steps.is
    (steps_done (record { description = c.args.checked; script = c.args.script.now }) c.args.stock _ _ c.requires.rules
    c.in_ok-run_in_steps-in-Steps.ensures.opening c.in_ok-run_in_steps-in-Steps.ensures.scheduled
    c.into_desk-in-Steps.ensures.desk c.into_desk-in-Steps.ensures.right)
