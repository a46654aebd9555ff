use Rattle.rt_flight.proofs.PartsLemmas.{IsPast}
use Rattle.par_update.proofs.workers.compute_by.Given as goal

-- so many depths gave out
abbrev pub invariant-loop-depth : goal.invariant-loop-depth
invariant-loop-depth g l = record { past : IsPast l.fn.flight l.depth l.depths l.flight }
