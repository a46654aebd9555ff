use Rattle.desk_turns.proofs.LoopConsoleLemmas.{closes_there}
use Rattle.desk_turns.proofs.desk_loop.DeskLoopLoopPort.close.Goals as goal

pub returns-clause-closed : goal.returns-clause-closed
returns-clause-closed g c = closes_there c.args.self.now.desk c.close.new.self c.close.ensures.made
