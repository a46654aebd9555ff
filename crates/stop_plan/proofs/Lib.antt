pub mod WhereLemmas
pub mod SpreadLemmas
pub mod ReportLemmas
pub mod EndingLemmas
pub mod QuietLemmas
mod EndingRows
