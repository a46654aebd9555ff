use Rattle.sound_laws.proofs.CycleLemmas.{after_steady}
use Rattle.sound_laws.proofs.cycles.the_end_of_a_cycle_keeps_a_state_steady.Goals as goal

pub returns : goal.returns
returns c = after_steady
