-- In reading order: what a view shows, what is worked out of a description once, what a decision rests on, a set that
-- is proposed, a decision that is done, one word for both lists of a request, and what the laws speak of.
pub mod View
pub mod Relations
pub mod Settings
pub mod Proposals
pub mod Changes
pub mod Lists
pub mod Laws
pub mod Calls
