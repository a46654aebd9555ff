-- In reading order: whole micro-units and their range, arithmetic, text, and the bodies of joints.
pub mod Micro
pub mod Arithmetic
pub mod Text
pub mod Bodies
pub mod Stored
