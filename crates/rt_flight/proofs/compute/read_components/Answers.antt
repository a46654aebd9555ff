use Rattle.std.proofs.Common.{refl}
use Rattle.rt_flight.proofs.compute.read_components.Goals as goal

pub returns : goal.returns
returns c = record
    { read = c.read.ensures.read; left = c.read.ensures.left; build = c.read.ensures.build; robot = refl; told = refl }
