use Rattle.cm_model.specs.Trace.{output}
use Rattle.trace_laws.proofs.JudgeLemmas.{judged_told, judged_wrong, nothing_way}
use Rattle.trace_laws.proofs.PrintedLemmas.{lines_of_history}
use Rattle.trace_laws.proofs.judging.replaying_a_text_judges_it.Goals as goal

pub returns-clause-told : goal.returns-clause-told
unfolding output
returns-clause-told c = λ document blanks text valid rules judgement.
    judged_told document blanks rules (nothing_way document rules)
    (λ history legal way. lines_of_history document blanks history valid rules legal way) text judgement

pub returns-clause-wrong : goal.returns-clause-wrong
unfolding output
returns-clause-wrong c = λ document blanks text wrong valid rules judgement.
    judged_wrong document blanks rules (nothing_way document rules)
    (λ history legal way. lines_of_history document blanks history valid rules legal way) text wrong judgement
