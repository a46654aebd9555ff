use Rattle.std.proofs.Common.{◌≡◌, ◌+◌, ◌≤◌, length}
use Rattle.cm_document.specs.Lines.{raw_lines}
use Rattle.trace_check.proofs.check.lines_in.Given as goal

-- so many lines stand before the rest
abbrev pub invariant-loop-rest : goal.invariant-loop-rest
invariant-loop-rest l = record {
  counted : l.count + length (raw_lines l.rest) ≡ length (raw_lines l.text);
  short : l.count + length l.rest ≤ length l.text;
}

abbrev pub decreases-loop-rest : goal.decreases-loop-rest
decreases-loop-rest l = length l.rest
