pub mod Book
pub mod Live
