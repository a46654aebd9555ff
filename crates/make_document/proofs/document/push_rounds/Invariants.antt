use Rattle.std.proofs.Common.{◌≡◌, ◌++◌, string_bytes}
use Rattle.make_document.specs.Made.{rounds_lines}
use Rattle.make_document.proofs.document.push_rounds.Given as goal

-- the rounds so far stand there
abbrev pub invariant-loop-done : goal.invariant-loop-done
invariant-loop-done l = string_bytes l.text ≡ string_bytes l.fn.text ++ rounds_lines l.done
