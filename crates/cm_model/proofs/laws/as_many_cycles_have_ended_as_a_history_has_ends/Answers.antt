use Rattle.cm_model.proofs.CountLemmas.{ended_from_boot}
use Rattle.cm_model.proofs.laws.as_many_cycles_have_ended_as_a_history_has_ends.Goals as goal

pub returns : goal.returns
returns c = ended_from_boot
