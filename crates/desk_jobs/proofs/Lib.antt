pub mod DoneLemmas
pub mod LiveLemmas
pub mod AloneLemmas
