use Rattle.std.proofs.Common.{◌≡◌, ◌+◌, ◌≤◌, length}
use Rattle.cm_document.specs.Lines.{raw_lines}
use Rattle.document_text.specs.Wished.{wishes_from}
use Rattle.document_text.specs.declared.wish.Stage.TheVariants.{Bare}
use Rattle.document_text.proofs.wish.wishes_from.Given as goal

-- the lines that are left make the script of a plan exactly if all do
abbrev pub invariant-loop-rest : goal.invariant-loop-rest
invariant-loop-rest l = record {
  left : wishes_from l.number l.stage (raw_lines l.rest) ≡ wishes_from l.first Bare (raw_lines l.text);
  fits : l.number + length (raw_lines l.rest) ≤ l.first + length (raw_lines l.text);
}

abbrev pub decreases-loop-rest : goal.decreases-loop-rest
decreases-loop-rest l = length l.rest
