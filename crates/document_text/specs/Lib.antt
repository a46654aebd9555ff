pub mod Plain
pub mod Parts
pub mod Traced
pub mod Wished
