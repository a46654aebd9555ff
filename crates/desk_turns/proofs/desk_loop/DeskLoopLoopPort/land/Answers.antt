use Rattle.desk_turns.proofs.LoopConsoleLemmas.{lands_there}
use Rattle.desk_turns.proofs.desk_loop.DeskLoopLoopPort.land.Goals as goal

pub returns-clause-landed : goal.returns-clause-landed
returns-clause-landed g c = lands_there c.args.self.now.desk c.land.new.self c.is_right.ensures c.land.ensures.made
