use Rattle.std.proofs.Common.{◌≡◌, ◌++◌, string_bytes}
use Rattle.make_document.specs.Made.{all_below, controller_lines}
use Rattle.make_document.proofs.document.push_controllers.Given as goal

-- what comes of the numbers so far stands there
abbrev pub invariant-loop-i : goal.invariant-loop-i
invariant-loop-i l = string_bytes l.text ≡ string_bytes l.fn.text ++ all_below controller_lines l.i
