use Rattle.std.proofs.Common.{take, flat_map}
use Rattle.std.specs.Fmt.{HasWritten, IsPlainFormatter}
use Rattle.cm_document.specs.CallText.{point_text}
use Rattle.cm_document.proofs.display.write_points.Given as goal

-- what is written are the points so far
abbrev pub invariant-loop-point : goal.invariant-loop-point
invariant-loop-point g l =
    IsPlainFormatter l.fn.f
    → HasWritten g.W.Write.write_str_gives l.fn.f (flat_map point_text (take l.point-index l.points)) l.f
