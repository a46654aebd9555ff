use Rattle.trace_laws.proofs.WayLemmas.{way_before}
use Rattle.trace_laws.proofs.ways.beginnings_are_on_their_way.Goals as goal

pub returns : goal.returns
returns c = way_before
