pub mod Wiring
pub mod Holding
pub mod Listed
pub mod Shown
pub mod Starting
pub mod Outputs
pub mod Committed
pub mod Calls
