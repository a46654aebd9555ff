-- In reading order: the end of a cycle, of what it is told and what is decided; then the parts of which it is worked
-- out.
pub mod Ending
pub mod Reports
pub mod Spread
pub mod Settled
pub mod Calls
