pub mod BoardLemmas
pub mod MakingLemmas
