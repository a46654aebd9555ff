pub mod Cycles
pub mod Boards
