-- What a judgement says of a text, and over which blanks it is given.
use Rattle.std.proofs.Common.{◌≡◌, ℕ, List, length, ap, subst, ◌∙◌}
use Rattle.std.specs.Prelude.{Result, Ok, Err}
use Rattle.cm_document.specs.Lines.{raw_lines}
use Rattle.cm_document.specs.ScriptLaws.{MeetsRules}
use Rattle.cm_document.specs.Valid.{IsValid}
use Rattle.cm_document.specs.declared.document.Document.{Document}
use Rattle.cm_model.specs.Trace.{output}
use Rattle.cm_model.specs.declared.blanks.Blanks.{Blanks}
use Rattle.trace_laws.proofs.JudgeLemmas.{judged_told, judged_wrong, nothing_way}
use Rattle.trace_laws.proofs.PrintedLemmas.{lines_of_history}
use Rattle.trace_laws.proofs.StockedLemmas.{few_are_enough}
use Rattle.trace_laws.specs.Judged.{judged}
use Rattle.trace_laws.specs.Stocks.{at_most}
use Rattle.trace_laws.specs.Told.{IsTold, IsWrong}
use Rattle.trace_laws.specs.Told as told
use Rattle.trace_check.specs.Checks.{Judges, Tells}
use Rattle.trace_check.specs.declared.fault.TraceFault.{TraceFault}
use Rattle.trace_check.specs.declared.fault.TraceFault.TheVariants as fault

-- what is judged right is told
is_told : (document : Document) (blanks : Blanks) (text : List ℕ) → IsValid document.description
    → MeetsRules document.script → judged document blanks text ≡ Ok tt → IsTold document blanks text
unfolding output
is_told document blanks text valid rules judgement =
    judged_told document blanks rules (nothing_way document rules)
    (λ history legal way. lines_of_history document blanks history valid rules legal way) text judgement

-- and what is judged wrong goes wrong there
is_wrong : (document : Document) (blanks : Blanks) (text : List ℕ) (wrong : told.WrongLine)
    → IsValid document.description → MeetsRules document.script → judged document blanks text ≡ Err wrong
    → IsWrong document blanks text wrong
unfolding output
is_wrong document blanks text wrong valid rules judgement =
    judged_wrong document blanks rules (nothing_way document rules)
    (λ history legal way. lines_of_history document blanks history valid rules legal way) text wrong judgement

-- An answer that is the judgement judges the text.
pub told_judges : (document : Document) (blanks : Blanks) (text : List ℕ) (answer : Result (Unit {0}) TraceFault)
    → IsValid document.description → MeetsRules document.script
    → Tells (judged document blanks text) answer → Judges document blanks text answer
told_judges document blanks text (Ok _) valid rules tells = is_told document blanks text valid rules tells
told_judges document blanks text (Err (fault.NotLegal line expected)) valid rules tells =
    is_wrong document blanks text (record { line = line; expected = expected }) valid rules tells
told_judges document blanks text (Err fault.Memory) valid rules tells = tt

-- A judgement over as many blanks as there are lines is that over all blanks.
pub over_all : (document : Document) (blanks few : Blanks) (text : List ℕ) (answer : Result (Unit {0}) TraceFault)
    → MeetsRules document.script
    → few ≡ at_most (length (raw_lines text)) blanks → Tells (judged document few text) answer
    → Tells (judged document blanks text) answer
over_all document blanks few text answer rules same tells =
    subst (λ judgement. Tells judgement answer)
    (ap (λ b. judged document b text) same ∙ few_are_enough document blanks text rules) tells
