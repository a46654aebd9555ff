use Rattle.sound_laws.proofs.HistoryLemmas.{legal_sound}
use Rattle.sound_laws.proofs.histories.legal_histories_are_sound.Goals as goal

pub returns : goal.returns
returns c = legal_sound
