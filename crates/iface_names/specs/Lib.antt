-- In reading order: what readers answer, names, the interfaces that are named with them, and how interfaces are
-- numbered.
pub mod Answers
pub mod Names
pub mod Interfaces
pub mod Sameness
pub mod Registry
