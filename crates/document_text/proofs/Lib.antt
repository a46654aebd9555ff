pub mod PartsLemmas
pub mod PlainLemmas
pub mod TracedLemmas
pub mod RulesLemmas
