-- In reading order: what the places are, then what is listed while they are looked up.
pub mod Placed
pub mod Listing
