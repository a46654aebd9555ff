use Rattle.std.proofs.Common.{arith}
use Rattle.cm_draw.proofs.traced.draw_traced.Goals as goal

-- a document that was read keeps the rules, and its trace is no longer than it
pub draw_trace-requires : goal.draw_trace-requires
draw_trace-requires g c =
    record { short = omega (arith, c.in-Ok.ensures.keeps.1, c.requires); rules = c.in-Ok.ensures.keeps.0 }
