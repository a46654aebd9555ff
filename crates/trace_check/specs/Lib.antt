-- In reading order.
pub mod Checks
pub mod Standing
pub mod Steps
