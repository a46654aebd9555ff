pub mod Workspaces
pub mod Cells
pub mod Depths
pub mod Cycles
pub mod Parts
pub mod Turns
