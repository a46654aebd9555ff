pub mod SegmentLemmas
pub mod ComeLemmas
pub mod BetweenLemmas
