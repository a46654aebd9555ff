pub mod ListLemmas
pub mod SetLemmas
pub mod SituationLemmas
pub mod ActLemmas
pub mod PlanLemmas
pub mod MoveLemmas
mod RequestRows
mod PlanRows
