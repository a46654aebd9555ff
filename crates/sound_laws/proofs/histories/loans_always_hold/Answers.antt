use Rattle.sound_laws.proofs.HistoryLemmas.{loans_at_all_times}
use Rattle.sound_laws.proofs.histories.loans_always_hold.Goals as goal

pub returns : goal.returns
returns c = loans_at_all_times
