use Rattle.rows_desk.proofs.TableLemmas.{hand_alike, reached_alike}
use Rattle.rows_desk.proofs.tables.Table.reached.Goals as goal

-- and an await
pub invariant_of-self-2 : goal.invariant_of-self-2
invariant_of-self-2 g c =
    hand_alike c.self.inside.desk c.reached.new.self c.self.inside.flight
    (reached_alike c.self.inside.desk c.reached.new.self c.args.who c.args.cycles c.in_ok-reached.reached
    c.in_ok-reached.ensures.made) c.self.invariant
