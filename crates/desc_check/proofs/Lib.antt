pub mod CountLemmas
pub mod LimitLemmas
mod CountRows
pub mod InterfaceLemmas
pub mod NameLemmas
pub mod VerdictLemmas
pub mod FallbackLemmas
pub mod MemberLemmas
pub mod RangeLemmas
