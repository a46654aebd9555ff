use Rattle.sound_laws.proofs.HistoryLemmas.{unloads_leave_nothing}
use Rattle.sound_laws.proofs.histories.unloads_leave_nothing_behind.Goals as goal

pub returns : goal.returns
returns c = unloads_leave_nothing
