-- The loop of a live run, and a session over its console.
pub mod Loops
pub mod Sessions
