-- In reading order.
pub mod OnTheWay
pub mod Next
pub mod Told
pub mod Judged
pub mod Stocks
