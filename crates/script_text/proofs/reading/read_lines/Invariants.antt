use Rattle.std.proofs.Common.{◌≡◌, ◌+◌, ◌≤◌, length}
use Rattle.cm_document.specs.Lines.{raw_lines}
use Rattle.cm_document.specs.ScriptRules.{with_lines, nothing}
use Rattle.script_text.proofs.reading.read_lines.Given as goal

-- what stands so far, and the lines that are left
abbrev pub invariant-loop-rest : goal.invariant-loop-rest
invariant-loop-rest l = record {
  so_far : with_lines l.grammar l.line l.draft (raw_lines l.rest)
      ≡ with_lines l.grammar l.first nothing (raw_lines l.text);
  fits : l.line + length (raw_lines l.rest) ≤ l.first + length (raw_lines l.text);
}

abbrev pub decreases-loop-rest : goal.decreases-loop-rest
decreases-loop-rest l = length l.rest
