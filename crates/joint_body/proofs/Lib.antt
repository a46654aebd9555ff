pub mod StepLemmas
pub mod BodyLemmas
