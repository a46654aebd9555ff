pub mod Tasks
pub mod Status
pub mod Answering
pub mod Calls
