use Rattle.sound_laws.proofs.HistoryLemmas.{requests_decided_once}
use Rattle.sound_laws.proofs.histories.requests_are_decided_once.Goals as goal

pub returns : goal.returns
returns c = requests_decided_once
