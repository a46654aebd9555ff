-- In reading order: what a cycle takes along, what it works on, who is active, how a loaded controller stands to its
-- description, what a commit asks and leaves, and what becomes of who is active.
pub mod CycleNeeds
pub mod CycleResources
pub mod ActiveSet
pub mod Described
pub mod Commits
pub mod Calls
