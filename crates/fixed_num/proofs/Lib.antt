pub mod ArithmeticLemmas
pub mod DigitLemmas
pub mod ReadLemmas
pub mod SpellingLemmas
pub mod ReadBackLemmas
mod Rows
mod BodyRows
