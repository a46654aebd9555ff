use Rattle.made_laws.proofs.RunRows.{one_round}
use Rattle.made_laws.proofs.runs.the_run_of_one_round.Goals as goal

pub returns : goal.returns
returns c = one_round
