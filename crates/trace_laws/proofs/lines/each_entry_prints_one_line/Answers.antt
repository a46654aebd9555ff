use Rattle.trace_laws.proofs.PrintedLemmas.{lines_of_history}
use Rattle.trace_laws.proofs.lines.each_entry_prints_one_line.Goals as goal

pub returns : goal.returns
returns c = lines_of_history
