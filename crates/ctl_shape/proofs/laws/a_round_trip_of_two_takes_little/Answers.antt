use Rattle.ctl_shape.proofs.TransmissionLemmas.{pair_trip}
use Rattle.ctl_shape.proofs.laws.a_round_trip_of_two_takes_little.Goals as goal

pub returns : goal.returns
returns c = pair_trip
