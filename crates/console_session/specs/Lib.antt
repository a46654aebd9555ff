-- What a session makes over a console.
pub mod Sessions
