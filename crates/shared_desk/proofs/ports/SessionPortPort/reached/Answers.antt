use Rattle.shared_desk.proofs.PortLemmas.{session_watched, reached_so, none_so}
use Rattle.shared_desk.proofs.ports.SessionPortPort.reached.Goals as goal

-- the pass is still that of the session
pub reached-requires : goal.reached-requires
reached-requires g c =
    record {
      console =
          session_watched c.args.self.now.desk.now.lock c.args.self.now.desk.now.at_first.value c.args.self.now.pass
          c.watch.new.pass c.args.self.now.session c.watch.ensures;
    }

pub returns-clause-made : goal.returns-clause-made
returns-clause-made g c =
    reached_so c.args.self.now.desk.now.lock c.args.self.now.desk.now.at_first.value c.args.self.now.pass
    c.watch.new.pass c.reached.new.pass c.args.cycles c.reached.result c.watch.ensures c.reached.ensures.made

pub returns-clause-kept : goal.returns-clause-kept
returns-clause-kept g c =
    none_so c.args.self.now.desk.now.lock c.args.self.now.desk.now.at_first.value c.args.self.now.pass c.watch.new.pass
    c.reached.new.pass c.reached.result c.watch.ensures c.reached.ensures.kept
