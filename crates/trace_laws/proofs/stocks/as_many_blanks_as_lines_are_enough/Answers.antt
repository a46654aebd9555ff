use Rattle.trace_laws.proofs.StockedLemmas.{few_are_enough}
use Rattle.trace_laws.proofs.stocks.as_many_blanks_as_lines_are_enough.Goals as goal

pub returns : goal.returns
returns c = few_are_enough
