-- What a check of a text answers.
use Rattle.std.specs.Prelude.{◌≡◌, ℕ, List, [], Option, Some, None, Result, Ok, Err}
use Rattle.cm_document.specs.Lines.{raw_lines}
use Rattle.cm_document.specs.declared.document.Document.{Document}
use Rattle.cm_model.specs.declared.blanks.Blanks.{Blanks}
use Rattle.cm_model.specs.declared.entry.Entry.{Entry}
use Rattle.trace_check.specs.declared.fault.TraceFault.{TraceFault}
use Rattle.trace_check.specs.declared.fault.TraceFault.TheVariants as fault
use Rattle.trace_check.specs.declared.fault.WrongLine.{WrongLine}
use Rattle.trace_laws.specs.Judged.{judged, told_before}
use Rattle.trace_laws.specs.Told.{IsTold, IsWrong}
use Rattle.trace_laws.specs.Told as told

-- ---- The answer

-- A text is judged: it is the trace of a legal, whole history of the document over these blanks; or no such history has
-- it as its trace, and it goes wrong at this line, where that was to come.
abbrev pub Judges : Document → Blanks → List ℕ → Result (Unit {0}) TraceFault → Type 0
Judges document blanks text (Ok _) = IsTold document blanks text
Judges document blanks text (Err (fault.NotLegal line expected)) =
    IsWrong document blanks text (record { line = line; expected = expected })
Judges document blanks text (Err fault.Memory) = Unit {0}

-- an answer is this judgement, unless memory ran out
abbrev pub Tells : Result (Unit {0}) told.WrongLine → Result (Unit {0}) TraceFault → Type 0
Tells judgement (Ok _) = judgement ≡ Ok tt
Tells judgement (Err (fault.NotLegal line expected)) =
    judgement ≡ Err (record { line = line; expected = expected })
Tells judgement (Err fault.Memory) = Unit {0}

-- ---- A replay

-- the judgement that is given by a wrong line, or by none
abbrev pub judged_by : Option WrongLine → Result (Unit {0}) told.WrongLine
judged_by None = Ok tt
judged_by (Some wrong) = Err (record { line = wrong.line; expected = wrong.expected })

-- What a replay came to: the entries that the lines told, and the first wrong line, if there is one.
pub record ReplayFacts : Type 0 where
  pub told : List Entry
  pub wrong : Option WrongLine

-- A text was replayed: its lines told these entries before one was wrong, and it is judged so.
pub record HasReplayed (document : Document) (blanks : Blanks) (text : List ℕ) (replay : ReplayFacts) : Type 0 where
  pub told : replay.told ≡ told_before document blanks [] (raw_lines text)
  pub judged_so : judged_by replay.wrong ≡ judged document blanks text
