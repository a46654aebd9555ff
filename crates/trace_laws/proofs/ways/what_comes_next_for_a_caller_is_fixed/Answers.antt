use Rattle.trace_laws.proofs.WayLemmas.{next_is}
use Rattle.trace_laws.proofs.ways.what_comes_next_for_a_caller_is_fixed.Goals as goal

pub returns : goal.returns
returns c = next_is
