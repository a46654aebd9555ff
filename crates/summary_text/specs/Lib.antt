-- In reading order: what is counted, the lines that tell it, and why no count grows too large.
pub mod Counted
pub mod Summary
pub mod Few
pub mod Calls
