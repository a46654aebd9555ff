-- In reading order: the requests as they are kept, why a component is not moved, what a decision rests on, what is done
-- for a request, the plan for all that wait, and what calls ask and promise.
pub mod Requests
pub mod Moves
pub mod Situations
pub mod Acts
pub mod Plans
pub mod Calls
