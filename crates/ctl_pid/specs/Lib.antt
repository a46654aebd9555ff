pub mod Loops
pub mod Limits
