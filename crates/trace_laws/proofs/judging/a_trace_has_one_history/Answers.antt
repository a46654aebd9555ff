use Rattle.cm_model.specs.Trace.{output}
use Rattle.trace_laws.proofs.JudgeLemmas.{nothing_way, one_history}
use Rattle.trace_laws.proofs.PrintedLemmas.{lines_of_history}
use Rattle.trace_laws.proofs.judging.a_trace_has_one_history.Goals as goal

pub returns : goal.returns
unfolding output
returns c = λ document blanks text one other valid rules first second.
    one_history document blanks rules (nothing_way document rules)
    (λ history legal way. lines_of_history document blanks history valid rules legal way) text one other first second
