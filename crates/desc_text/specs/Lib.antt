pub mod Refusals
pub mod Printed
pub mod Readable
