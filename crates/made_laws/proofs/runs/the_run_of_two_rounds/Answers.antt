use Rattle.made_laws.proofs.RunRows.{two_rounds}
use Rattle.made_laws.proofs.runs.the_run_of_two_rounds.Goals as goal

pub returns : goal.returns
returns c = two_rounds
