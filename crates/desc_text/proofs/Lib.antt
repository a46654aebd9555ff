pub mod ItemLemmas
pub mod TreeLemmas
mod RowLemmas
mod BackLemmas
mod PartsBackLemmas
mod OwnKeyLemmas
mod ControllersBackLemmas
mod PrintLemmas
pub mod ReadableLemmas
