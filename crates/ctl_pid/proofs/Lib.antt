pub mod LoopLemmas
pub mod LimitLemmas
