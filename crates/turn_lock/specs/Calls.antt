pub mod Make
pub mod Take
pub mod Count
pub mod Put
pub mod Finish
