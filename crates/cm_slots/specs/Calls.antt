pub mod Commits
pub mod Mails
pub mod Slots
