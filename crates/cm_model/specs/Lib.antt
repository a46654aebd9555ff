-- In reading order: what the manager makes of a document.
pub mod Components
pub mod Values
pub mod Blanks
pub mod State
pub mod Pids
pub mod Transmissions
pub mod Limiters
pub mod Kinds
pub mod Ways
pub mod Controllers
pub mod Order
pub mod Console
-- switches
pub mod Scene
pub mod Faults
pub mod Switches
pub mod BestEffort
pub mod Claims
pub mod Commit
-- cycles and histories
pub mod Cycle
pub mod Boundary
pub mod Machine
pub mod CauseIsTrue
pub mod Serials
pub mod Loans
pub mod Deciding
pub mod Sound
pub mod Steady
pub mod Scheduled
pub mod Sessions
pub mod Histories
pub mod Ports
pub mod Causes
-- the trace
pub mod Items
pub mod Trace
