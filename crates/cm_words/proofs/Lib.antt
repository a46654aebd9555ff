pub mod WordLemmas
pub mod RoundLemmas
pub mod ExactLemmas
pub mod Rows
