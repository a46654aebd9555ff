use Rattle.cm_slots.proofs.ConnectionLemmas.{own_connection, own_room}
use Rattle.cm_slots.proofs.laws.own_controllers_are_connected.Goals as goal

pub returns-clause-connected : goal.returns-clause-connected
returns-clause-connected c = λ d l ok described own. own_connection d ok l described own

pub returns-clause-room : goal.returns-clause-room
returns-clause-room c = λ d l ok described. own_room d ok l described
