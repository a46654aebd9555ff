use Rattle.std.proofs.Common.{take, drop}
use Rattle.rt_flight.specs.Depths.{places_in, IsFlagged}
use Rattle.rt_flight.proofs.PutDownLemmas.{IsSoFar}
use Rattle.rt_flight.proofs.depths.set_depths.Given as goal

-- the cells so far have their depths, and those of the last depth, which have their flags, begin at one of them
abbrev pub invariant-loop-i : goal.invariant-loop-i
invariant-loop-i g l = record {
  so_far : IsSoFar l.relations l.fn.cells l.cells l.first l.i l.depths;
  flagged : IsFlagged l.layer.flags (drop l.first (take l.i (places_in l.cells)));
}
