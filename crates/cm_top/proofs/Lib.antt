pub mod TopLemmas
pub mod ReadLemmas
pub mod AnswerLemmas
pub mod BytesLemmas
