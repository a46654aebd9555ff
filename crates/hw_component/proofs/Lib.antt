pub mod ClaimLemmas
pub mod JointLemmas
pub mod MakingLemmas
