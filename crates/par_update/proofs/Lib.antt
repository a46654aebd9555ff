pub mod MappedLemmas
