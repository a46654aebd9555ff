use Rattle.made_laws.proofs.CountLemmas.{counted_runs}
use Rattle.made_laws.proofs.runs.runs_of_made_documents_are_counted.Goals as goal

pub returns : goal.returns
returns c = counted_runs
