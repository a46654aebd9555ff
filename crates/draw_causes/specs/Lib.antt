-- The table of the sentences.
pub mod Words
