use Rattle.shared_desk.proofs.PortLemmas.{can_begin_here, begun_so, stays_so}
use Rattle.shared_desk.proofs.ports.LoopEndLoopPort.begin.Goals as goal

-- where the console says that a cycle can begin, it can
pub begin-requires : goal.begin-requires
begin-requires g c =
    can_begin_here c.args.self.now.desk.now.lock c.args.self.now.desk.now.at_first.value c.args.self.now.pass.pass
    c.args.self.now.looping c.requires

pub returns-clause-begun : goal.returns-clause-begun
returns-clause-begun g c =
    begun_so c.args.self.now.desk.now.lock c.args.self.now.desk.now.at_first.value c.args.self.now.pass.pass
    c.begin.new.pass.pass c.begin.result c.args.self.now.looping c.begin.ensures.made c.begin.ensures.flight

-- none began
pub returns-clause-kept : goal.returns-clause-kept
returns-clause-kept g c =
    stays_so c.args.self.now.desk.now.lock c.args.self.now.desk.now.at_first.value c.args.self.now.pass.pass
    c.begin.new.pass.pass c.begin.result c.args.self.now.looping c.begin.ensures.kept
