use Rattle.std.proofs.Common.{subst, sym}
use Rattle.rt_flight.specs.Depths.{IsFlagged}
use Rattle.rt_flight.proofs.PutDownLemmas.{range_places, starts_else}
use Rattle.rt_flight.proofs.depths.starts_depth.Goals as goal

-- a cell that is not the first of all goes by the cells of the depth before
pub returns-else-i-eq0 : goal.returns-else-i-eq0
returns-else-i-eq0 g c =
    starts_else c.args.relations.now c.args.cells.now c.args.first c.args.i c.index-cells-i.result c.follows.result
    c.requires.within.0 c.requires.within.1 c.if-i-eq0.false c.index-cells-i.is
    c.follows.ensures

-- the cells of the depth before have the flags
pub follows-requires-clause-layer : goal.follows-requires-clause-layer
follows-requires-clause-layer g c =
    subst (IsFlagged c.args.layer.now.flags)
    (sym (range_places c.args.cells.now c.args.first c.args.i c.requires.within.0)) c.requires.layer
