pub mod Loops
pub mod Shared
