pub mod TransmissionLemmas
pub mod WayLemmas
pub mod FormulaLemmas
pub mod StepLemmas
pub mod LimitLemmas
pub mod SearchLemmas
pub mod UpdateLemmas
pub mod PacedLemmas
mod Rows
mod LimiterRows
