pub mod Share
pub mod Sessions
pub mod Looping
pub mod Looks
pub mod Home
