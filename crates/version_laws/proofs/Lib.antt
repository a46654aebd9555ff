pub mod AlikeLemmas
pub mod StepLemmas
pub mod ScheduleLemmas
