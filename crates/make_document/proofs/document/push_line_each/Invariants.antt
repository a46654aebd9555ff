use Rattle.std.proofs.Common.{◌≡◌, ◌++◌, string_bytes}
use Rattle.make_document.specs.Made.{all_below, line_each}
use Rattle.make_document.proofs.document.push_line_each.Given as goal

-- the lines so far stand there
abbrev pub invariant-loop-i : goal.invariant-loop-i
invariant-loop-i l = string_bytes l.text ≡ string_bytes l.fn.text ++ all_below (line_each l.verb) l.i-counter
