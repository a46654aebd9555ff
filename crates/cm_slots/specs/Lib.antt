-- In reading order: what is kept of one controller, where it stands to the board, what a commit makes of it, the mail
-- that is aloft, what an update makes of it and of the board, which cycle is aloft, what a state keeps for that; all of
-- them with their boxes, those that leave and come back by place, and what calls ask and promise.
pub mod Lives
pub mod Connections
pub mod Commits
pub mod Mails
pub mod Updates
pub mod Cycles
pub mod Fit
pub mod Slots
pub mod Lent
pub mod Calls
