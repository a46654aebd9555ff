pub mod Prefixes
pub mod Turns
pub mod GatheredLemmas
