-- In reading order: who is wanted, what can never be, when they can start, the script, and the plan.
pub mod Wanted
pub mod Never
pub mod Fitting
pub mod Starting
pub mod Plan
-- how the code finds them
pub mod Outcomes
pub mod Spans
