pub mod ActiveSets
