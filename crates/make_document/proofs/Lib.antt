pub mod TextLemmas
pub mod DescriptionLemmas
pub mod PartsLemmas
pub mod ScriptLemmas
pub mod AcceptedLemmas
pub mod SizeLemmas
mod Rows
