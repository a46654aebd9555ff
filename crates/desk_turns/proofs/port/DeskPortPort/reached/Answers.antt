use Rattle.desk_turns.proofs.PortLemmas.{ground_reached}
use Rattle.desk_turns.proofs.port.DeskPortPort.reached.Goals as goal

-- an await is a call of a console
pub returns-else-not-reached-clause-still : goal.returns-else-not-reached-clause-still
returns-else-not-reached-clause-still g c =
    ground_reached c.args.self.now.desk.ghost_name c.args.self.now.who c.args.cycles c.args.self.now.desk.now
    c.reached.new.self c.in_ok-reached.reached c.in_ok-reached.ensures.made
