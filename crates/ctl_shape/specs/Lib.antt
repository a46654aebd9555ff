pub mod RoundTrips
pub mod Limiters
pub mod Capped
pub mod Calls
pub mod Controllers
pub mod Updates
