pub mod ConsoleLemmas
