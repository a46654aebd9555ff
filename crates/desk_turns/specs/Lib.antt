pub mod Ports
pub mod Jobs
