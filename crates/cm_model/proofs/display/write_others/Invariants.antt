use Rattle.std.proofs.Common.{take, ◌++◌}
use Rattle.std.specs.Prelude.{flat_map, codes}
use Rattle.std.specs.Fmt.{HasWritten, IsPlainFormatter}
use Rattle.cm_model.specs.Causes.{dropped_text}
use Rattle.cm_model.proofs.display.write_others.Given as goal

-- what is written are the names so far
abbrev pub invariant-loop-dropped : goal.invariant-loop-dropped
invariant-loop-dropped g l =
    IsPlainFormatter l.fn.f
    → HasWritten g.W.Write.write_str_gives l.fn.f
    (flat_map (λ other. codes ", " ++ dropped_text other) (take l.dropped-index l.others)) l.f
