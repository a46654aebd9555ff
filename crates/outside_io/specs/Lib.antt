pub mod Faults
pub mod Bytes
pub mod Failing
pub mod InMemory
pub mod Calls
