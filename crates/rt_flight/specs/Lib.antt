-- In reading order: where a controller stands, what stands in a cell and what the updates make of all cells, then the
-- flight, and what calls ask and leave.
pub mod Workspaces
pub mod Cells
pub mod Depths
pub mod Progress
pub mod Flights
pub mod UnderWay
pub mod Calls
pub mod Lending
