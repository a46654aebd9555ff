pub mod ReadWhole
pub mod MemorySource
pub mod MemorySink
