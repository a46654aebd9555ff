use Rattle.live_run.specs.Loops.{HasMade}
use Rattle.live_run.proofs.looping.run_cycles.Given as goal

-- the cycles so far
abbrev pub invariant-loop-cycle : goal.invariant-loop-cycle
invariant-loop-cycle g l = HasMade g.L.LoopPort l.cycles l.cycle l.fn.looping l.looping
