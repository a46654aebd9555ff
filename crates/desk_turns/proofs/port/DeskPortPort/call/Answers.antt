use Rattle.cm_desk.proofs.BegunLemmas.{is_console}
use Rattle.desk_turns.proofs.PortLemmas.{ground_kept}
use Rattle.desk_turns.proofs.port.DeskPortPort.call.Goals as goal

-- the call is one of a console
pub returns-clause-still : goal.returns-clause-still
returns-clause-still g c =
    ground_kept c.args.self.now.desk.ghost_name c.args.self.now.who c.args.self.now.desk.now c.call.new.self c.args.call
    _
    (is_console c.args.call c.requires) c.in_ok-reply.ensures.made
