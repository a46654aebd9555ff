use Rattle.sound_laws.proofs.HistoryLemmas.{one_configuration}
use Rattle.sound_laws.proofs.histories.one_configuration_holds_in_each_cycle.Goals as goal

pub returns : goal.returns
returns c = one_configuration
