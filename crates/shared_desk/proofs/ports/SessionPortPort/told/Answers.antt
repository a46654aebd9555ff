use Rattle.shared_desk.proofs.PortLemmas.{session_watched, told_so, none_so}
use Rattle.shared_desk.proofs.ports.SessionPortPort.told.Goals as goal

-- the pass is still that of the session
pub told-requires : goal.told-requires
told-requires g c =
    record {
      console =
          session_watched c.args.self.now.desk.now.lock c.args.self.now.desk.now.at_first.value c.args.self.now.pass
          c.watch.new.pass c.args.self.now.session c.watch.ensures;
    }

pub returns-clause-made : goal.returns-clause-made
returns-clause-made g c =
    told_so c.args.self.now.desk.now.lock c.args.self.now.desk.now.at_first.value c.args.self.now.pass c.watch.new.pass
    c.told.new.pass c.args.ticket c.told.result c.watch.ensures c.told.ensures.made

pub returns-clause-kept : goal.returns-clause-kept
returns-clause-kept g c =
    none_so c.args.self.now.desk.now.lock c.args.self.now.desk.now.at_first.value c.args.self.now.pass c.watch.new.pass
    c.told.new.pass c.told.result c.watch.ensures c.told.ensures.kept
