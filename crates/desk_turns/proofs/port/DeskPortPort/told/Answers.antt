use Rattle.desk_turns.proofs.PortLemmas.{ground_told}
use Rattle.desk_turns.proofs.port.DeskPortPort.told.Goals as goal
use Rattle.desk_turns.proofs.port.DeskPortPort.told.Goals.{then-is_none, else-is_none}

-- to be told is a call of a console
pub returns-clause-still : goal.returns-clause-still
returns-clause-still g c =
    let kept = ground_told c.args.self.now.desk.ghost_name c.args.self.now.who c.args.ticket c.args.self.now.desk.now
    c.told.new.self c.in_ok-told.told c.in_ok-told.ensures.made in
    elim c.if-is_none.branch [ then-is_none w ↦ rw w.self-is kept | else-is_none w ↦ rw w.self-is kept ]
