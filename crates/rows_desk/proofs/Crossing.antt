-- What a thread takes with it may cross that takes a flight.
use Rattle.std.proofs.Common.{List, [], ◌∷◌}
use mir.Syntax.{Sym}
use denote.Param.Send.{IsSend}
use denote.Param.SendFields.{as_row_send, declared_send}
use denote.RattleType.{RattleType}
use denote.Struct.Field.{row_field}
use denote.Struct.Tuple.{TupleAt, type_at}
use Rattle.ctl_trait.specs.declared.controller.Controller.{Ghosts}
use Rattle.rt_flight.proofs.Crossing.{flight_send}
use Rattle.rt_flight.specs.contracts.flight.Flight as Flight

pub taken_send : (C : RattleType) (m : Ghosts C.Denot) → IsSend C → (ν : Sym)
    → IsSend (TupleAt ν (Flight.the_row C m ∷ []))
taken_send C m s ν =
    let types : List RattleType = Flight.the_row C m ∷ [] in
    declared_send (type_at ν types) (as_row_send (row_field (Flight.the_row C m)) (flight_send C m s), tt)
