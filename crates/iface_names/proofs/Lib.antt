pub mod NameLemmas
pub mod PlaceLemmas
pub mod PartsLemmas
pub mod TextLemmas
pub mod RegistryLemmas
mod Rows
