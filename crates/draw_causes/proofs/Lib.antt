pub mod WordLemmas
mod Rows
