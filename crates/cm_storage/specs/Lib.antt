-- In reading order: what contracts see of a cycle, then how it and a call are kept.
pub mod Ran
pub mod Happened
pub mod Rans
pub mod Held
pub mod Standing
pub mod Kept
