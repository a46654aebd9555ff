pub mod Run
pub mod Read
pub mod Answer
