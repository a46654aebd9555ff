-- In reading order: all that the desk keeps, how a cycle begins, how controllers come to their cells, how it ends, and
-- what calls ask and hand over.
pub mod Works
pub mod Begin
pub mod Filling
pub mod End
pub mod Desk
pub mod Calls
