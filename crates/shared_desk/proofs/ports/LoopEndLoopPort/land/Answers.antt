use Rattle.shared_desk.proofs.PortLemmas.{lands_here}
use Rattle.shared_desk.proofs.ports.LoopEndLoopPort.land.Goals as goal

-- the computed flight at hand may land
pub land-requires : goal.land-requires
land-requires g c = record { looping = c.args.self.now.looping; lands = c.requires.out.after c.requires.computed }

pub returns-clause-landed : goal.returns-clause-landed
returns-clause-landed g c =
    lands_here c.args.self.now.desk.now.lock c.args.self.now.desk.now.at_first.value c.args.self.now.pass.pass
    c.land.new.pass.pass c.args.self.now.looping c.land.ensures.landed
