use Rattle.std.proofs.Common.{refl}
use Rattle.rt_flight.proofs.compute.write_components.Goals as goal

pub returns : goal.returns
returns c = record { finished = c.finish.ensures; robot = refl; told = refl }
