use Rattle.sound_laws.proofs.BootLemmas.{boot_steady}
use Rattle.sound_laws.proofs.opening.the_state_at_boot_is_steady.Goals as goal

pub returns : goal.returns
returns c = boot_steady
