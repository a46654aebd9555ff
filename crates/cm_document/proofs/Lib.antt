pub mod ReadingLemmas
pub mod VocabularyLemmas
pub mod FormLemmas
pub mod CycleLemmas
pub mod DescribedLemmas
pub mod DocumentLemmas
pub mod LineLemmas
pub mod DistinctLemmas
pub mod GivenLemmas
pub mod ValueLemmas
pub mod OwnLemmas
pub mod KindLemmas
pub mod BoundedLemmas
pub mod ValidLemmas
pub mod ValidParts
pub mod PickLemmas
pub mod PlaceLemmas
pub mod RouteLemmas
pub mod ChainLemmas
pub mod CopyLemmas
mod Rows
mod DescribedRows
mod ValidRows
mod PlaceRows
mod ScriptRows
mod ScriptLawRows
