pub mod FirstLemmas
pub mod ExistLemmas
pub mod PlacedLemmas
pub mod OutputLemmas
pub mod MakingLemmas
pub mod PlacedRows
