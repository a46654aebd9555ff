use denote.Exit as exit
use denote.Param.{param}
use denote.Param.Send.{sendable, param_send, arg_send}
use Rattle.rows_desk.proofs.Crossing.{taken_send}
use Rattle.rt_flight.proofs.Crossing.{flight_send}
use Rattle.rows_desk.proofs.tables.flown_aside.Goals as goal

-- the flight goes to the thread,
pub join-flight-requires-send-F : goal.join-flight-requires-send-F
join-flight-requires-send-F g c κs within =
    param_send 1 _
    (arg_send _ exit.no _ (taken_send (param 1 g.row.C) g.C.Controller (search (sendable, c.type_bounds.send-C)) _))

-- and comes back
pub join-flight-requires-send-A : goal.join-flight-requires-send-A
join-flight-requires-send-A g c κs within =
    param_send 3 _
    (arg_send _ exit.no _ (flight_send (param 1 g.row.C) g.C.Controller (search (sendable, c.type_bounds.send-C))))
