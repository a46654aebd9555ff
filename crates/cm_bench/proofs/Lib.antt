mod Crossing
pub mod LimitLemmas
pub mod WordLemmas
mod WordRows
