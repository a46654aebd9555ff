use Rattle.sound_laws.proofs.DecidedLemmas.{begin_decides}
use Rattle.sound_laws.proofs.tickets.begins_decide_rightly.Goals as goal

pub returns : goal.returns
returns c = begin_decides
