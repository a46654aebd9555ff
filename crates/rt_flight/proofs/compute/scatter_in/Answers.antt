use Rattle.std.proofs.Common.{refl}
use Rattle.rt_flight.proofs.compute.scatter_in.Goals as goal

pub returns-clause-put : goal.returns-clause-put
returns-clause-put g c = record { put = c.scatter_all.ensures.cells; robot = refl; told = refl }
