use Rattle.rt_flight.proofs.PartsLemmas.{IsPast}
use Rattle.rt_flight.proofs.flight.Flight.compute.Given as goal

-- so many depths gave out
abbrev pub invariant-loop-depth : goal.invariant-loop-depth
invariant-loop-depth g l = record { past : IsPast l.fn.self l.depth l.depths l.self }
