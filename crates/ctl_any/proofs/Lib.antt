pub mod BoxLemmas
pub mod CountLemmas
