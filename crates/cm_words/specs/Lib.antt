pub mod Words
pub mod Accepted
