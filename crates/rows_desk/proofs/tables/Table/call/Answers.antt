use Rattle.cm_desk.proofs.BegunLemmas.{called_alike, is_console}
use Rattle.rows_desk.proofs.TableLemmas.{hand_alike}
use Rattle.rows_desk.proofs.tables.Table.call.Goals as goal

-- a call of a session leaves the cycle that is aloft
pub invariant_of-self-2 : goal.invariant_of-self-2
invariant_of-self-2 g c =
    hand_alike c.self.inside.desk c.call.new.self c.self.inside.flight
    (called_alike c.self.inside.desk c.call.new.self c.args.who c.args.call _ (is_console c.args.call c.requires.called)
    c.in_ok-answer.ensures.made) c.self.invariant
