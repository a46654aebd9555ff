use Rattle.std.proofs.Common.{take}
use Rattle.std.specs.Fmt.{HasWritten, IsPlainFormatter}
use Rattle.cm_document.specs.CallText.{signed_text}
use Rattle.cm_document.proofs.display.write_signed.Given as goal

-- what is written are the picks so far
abbrev pub invariant-loop-pick : goal.invariant-loop-pick
invariant-loop-pick g l =
    IsPlainFormatter l.fn.f
    → HasWritten g.W.Write.write_str_gives l.fn.f (signed_text l.sign (take l.pick-index l.picks)) l.f
