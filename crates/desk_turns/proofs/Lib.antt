pub mod NumberLemmas
pub mod PortLemmas
pub mod LoopConsoleLemmas
pub mod LoopCrossing
pub mod SettleLemmas
pub mod JobLemmas
pub mod RulesLemmas
