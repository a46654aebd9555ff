pub mod Counts
pub mod Verdict
