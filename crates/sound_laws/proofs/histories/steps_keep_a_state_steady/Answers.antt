use Rattle.sound_laws.proofs.HistoryLemmas.{step_steady}
use Rattle.sound_laws.proofs.histories.steps_keep_a_state_steady.Goals as goal

pub returns : goal.returns
returns c = step_steady
