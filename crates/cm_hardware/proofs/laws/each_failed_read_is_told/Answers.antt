use Rattle.cm_hardware.proofs.ToldLemmas.{read_failures_told}
use Rattle.cm_hardware.proofs.laws.each_failed_read_is_told.Goals as goal

pub returns : goal.returns
returns c = read_failures_told
