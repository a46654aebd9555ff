pub mod RanLemmas
pub mod StandingLemmas
