pub mod Answers
pub mod Last
pub mod Room
