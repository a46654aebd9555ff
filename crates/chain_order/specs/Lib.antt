-- In reading order: which places are linked, then the ways over links, what one step of a search does, one round of
-- ranks, and what the laws speak of.
pub mod Links
pub mod Ways
pub mod Search
pub mod Ranks
pub mod Laws
