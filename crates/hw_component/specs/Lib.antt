pub mod Hardware
pub mod Calls
-- how the code keeps a component
pub mod Drives
pub mod Kept
