mod Rows
mod ListLemmas
mod RuleLemmas
pub mod WordLemmas
mod StepLemmas
mod SeatLemmas
mod PassLemmas
mod MakeLemmas
mod FinishLemmas
pub mod Crossing
pub mod Callers
