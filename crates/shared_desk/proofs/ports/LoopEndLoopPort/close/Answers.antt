use Rattle.shared_desk.proofs.PortLemmas.{closes_here}
use Rattle.shared_desk.proofs.ports.LoopEndLoopPort.close.Goals as goal

pub returns-clause-closed : goal.returns-clause-closed
returns-clause-closed g c =
    closes_here c.args.self.now.desk.now.lock c.args.self.now.desk.now.at_first.value c.args.self.now.pass.pass
    c.close.new.pass.pass c.close.ensures.closed
