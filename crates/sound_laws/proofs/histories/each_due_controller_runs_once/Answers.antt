use Rattle.sound_laws.proofs.HistoryLemmas.{each_due_one_runs_once}
use Rattle.sound_laws.proofs.histories.each_due_controller_runs_once.Goals as goal

pub returns : goal.returns
returns c = each_due_one_runs_once
