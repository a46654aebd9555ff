-- What a flight ends as, once the cells that wait were lent.
use Rattle.std.specs.Prelude.{List}
use Rattle.std.specs.Borrow.{Lends, Fml, RattleType, MutBor, Array}
use Rattle.ctl_trait.specs.declared.controller.Controller.{Ghosts}
use Rattle.rt_flight.specs.Cells.{CellFacts}
use Rattle.rt_flight.specs.Flights.{FlightFacts}
use Rattle.rt_flight.specs.UnderWay.{with_lent}
use Rattle.rt_flight.specs.contracts.cell.Cell.{the_row as the_cell_row}
use Rattle.rt_flight.specs.contracts.flight.Flight.{the_row}

module _ (C : RattleType) (g : Ghosts C.Denot) (f : MutBor FlightFacts) where
  -- once the borrow ends, the cells that it shows last stand in place of those that waited
  abbrev pub lends_cells : MutBor (List CellFacts) → Fml
  lends_cells r = Lends (the_row C g) (Array (the_cell_row C g) 0) f r (with_lent f.now)
