use Rattle.rt_flight.proofs.FlagLemmas.{none_up}
use Rattle.rt_flight.proofs.layer.Layer.none.Goals as goal

pub returns : goal.returns
returns c p within = none_up p within
