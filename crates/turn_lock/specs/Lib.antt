-- In reading order: what is said of kept values, what a seat knows, what a pass is, the rule between any two steps,
-- what each step tells, and what calls promise.
pub mod Entries
pub mod Views
pub mod Stands
pub mod Rule
pub mod Steps
pub mod Passes
pub mod Calls
