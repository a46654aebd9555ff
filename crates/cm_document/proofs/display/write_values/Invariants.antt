use Rattle.std.proofs.Common.{take}
use Rattle.std.specs.Fmt.{HasWritten, IsPlainFormatter}
use Rattle.cm_document.specs.CallText.{values_text}
use Rattle.cm_document.proofs.display.write_values.Given as goal

-- what is written are the values so far
abbrev pub invariant-loop-value : goal.invariant-loop-value
invariant-loop-value g l =
    IsPlainFormatter l.fn.f
    → HasWritten g.W.Write.write_str_gives l.fn.f (values_text (take l.value-index l.values)) l.f
