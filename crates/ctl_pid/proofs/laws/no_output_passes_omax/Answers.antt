use Rattle.ctl_pid.proofs.LimitLemmas.{update_gives_within}
use Rattle.ctl_pid.proofs.laws.no_output_passes_omax.Goals as goal

pub returns : goal.returns
returns c = update_gives_within
