pub mod SpanLemmas
pub mod FitLemmas
pub mod WantedLemmas
pub mod OnceLemmas
pub mod NeverLemmas
