use Rattle.ctl_shape.proofs.TransmissionLemmas.{simple_trip}
use Rattle.ctl_shape.proofs.laws.a_round_trip_takes_at_most_a_grain.Goals as goal

pub returns : goal.returns
returns c = simple_trip
