use Rattle.trace_laws.proofs.WayLemmas.{whole_way}
use Rattle.trace_laws.proofs.ways.whole_histories_are_on_their_way.Goals as goal

pub returns : goal.returns
returns c = whole_way
