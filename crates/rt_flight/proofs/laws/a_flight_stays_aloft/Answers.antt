use Rattle.rt_flight.proofs.AlikeLemmas.{stays_aloft}
use Rattle.rt_flight.proofs.laws.a_flight_stays_aloft.Goals as goal

pub returns : goal.returns
returns c = λ begun flight is s alike. stays_aloft begun s flight is alike
