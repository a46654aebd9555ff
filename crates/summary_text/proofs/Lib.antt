pub mod CountLemmas
pub mod LineLemmas
mod Rows
