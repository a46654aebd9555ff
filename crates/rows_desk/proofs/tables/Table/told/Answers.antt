use Rattle.rows_desk.proofs.TableLemmas.{hand_alike, told_alike}
use Rattle.rows_desk.proofs.tables.Table.told.Goals as goal

-- and so does what it is told of a ticket
pub invariant_of-self-2 : goal.invariant_of-self-2
invariant_of-self-2 g c =
    hand_alike c.self.inside.desk c.told.new.self c.self.inside.flight
    (told_alike c.self.inside.desk c.told.new.self c.args.who c.args.ticket c.in_ok-told.told c.in_ok-told.ensures.made)
    c.self.invariant
