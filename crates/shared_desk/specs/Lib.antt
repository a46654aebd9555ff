-- In reading order: what is published of a history, what a pass of a desk is, what a turn of it comes to, what each
-- call asks and promises, and what the consoles over passes tell.
pub mod Shown
pub mod Passes
pub mod Turns
pub mod Calls
pub mod Ports
