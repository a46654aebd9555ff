pub mod Led
pub mod Between
pub mod Calls
